-- The program's output: a text for standard output, and a status.
use Rattle.std.specs.Prelude.{ℕ, List, ◌++◌, codes}
use Rattle.ssr_program.specs.declared.commands.Form.{Form}
use Rattle.ssr_program.specs.declared.commands.Form.TheVariants as forms

pub record Output : Type 0 where
  pub text : List ℕ
  pub status : ℕ

abbrev pub line_break : List ℕ
line_break = codes "\n"

abbrev pub written : List ℕ → Output
written text = record { text = text; status = 0 }

abbrev pub usage : Output
usage = record { text = codes "usage: ssr [--facts FILE] RULE.." ++ line_break; status = 2 }

-- what tells why there is no new text: one line, unless the words have a line break
abbrev pub refused : List ℕ → Output
refused words = record { text = codes "error: " ++ (words ++ line_break); status = 1 }

-- what is read
abbrev pub input_of : Form → List ℕ
input_of forms.File = codes "standard input"
input_of forms.Facts = codes "facts"

-- what tells why what was read gives no new text
abbrev pub input_refused : Form → List ℕ → Output
input_refused form words = refused (input_of form ++ (codes ": " ++ words))

-- what tells why a search for the rules gives no new text
abbrev pub search_refused : List ℕ → Output
search_refused message = refused (codes "Parse error: " ++ message)
