-- What the words of the command ask for.
use Rattle.std.specs.Prelude.{ℕ, List, [], ◌∷◌, Option, Some, None, bytes_eq, codes, if◌then◌else◌}
use Rattle.ssr_program.specs.declared.commands.Form.{Form}
use Rattle.ssr_program.specs.declared.commands.Form.TheVariants as forms

-- what the words behind a first word `--facts` ask for: a file has to stand there, and a rule
abbrev pub facts_command : List (List ℕ) → Option (Form × List (List ℕ))
facts_command [] = None
facts_command (path ∷ []) = None
facts_command (path ∷ (rule ∷ rules)) = Some (forms.Facts, rule ∷ rules)

-- The form that is asked for, and the rules. Words that can't be read are wrong, and so are no words.
abbrev pub command_of : Option (List (List ℕ)) → Option (Form × List (List ℕ))
command_of None = None
command_of (Some []) = None
command_of (Some (word ∷ words)) = if bytes_eq word (codes "--facts") then facts_command words else Some (forms.File, word ∷ words)

-- the path of the facts file, where facts are asked for
abbrev pub facts_path : List (List ℕ) → Option (List ℕ)
facts_path [] = None
facts_path (word ∷ []) = None
facts_path (word ∷ (path ∷ [])) = None
facts_path (word ∷ (path ∷ (rule ∷ rules))) = if bytes_eq word (codes "--facts") then Some path else None
