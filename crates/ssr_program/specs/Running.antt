-- What a run of the program does to its source and its sink.
use Rattle.std.specs.Prelude.{ℕ, ◌≡◌, ◌+◌, true, false, List, Option, Some, None, codes}
use Rattle.ssr_syntax_tree.specs.Syntax.{Syntax}
use Rattle.ssr_facts.specs.declared.facts.Facts.{Facts}
use Rattle.ssr_program.specs.declared.commands.Form.{Form}
use Rattle.ssr_program.specs.declared.commands.Form.TheVariants as forms
use Rattle.ssr_streams.specs.Streams.{Given, Taken, IsRead, Sent}
use Rattle.ssr_program.specs.Commands.{command_of}
use Rattle.ssr_program.specs.Output.{Output, usage, refused, input_refused}
use Rattle.ssr_program.specs.OfFile.{IsFile, IsOutputOfFile}
use Rattle.ssr_program.specs.OfFacts.{AreFacts, IsOutputOfFacts}

-- what is written in a form for rules and the bytes that are read
abbrev pub IsOutput : Form → List (List ℕ) → List ℕ → Output → Type 0
IsOutput forms.File = IsOutputOfFile
IsOutput forms.Facts = IsOutputOfFacts

-- the bytes that are read can be searched
abbrev pub IsSearchable : Form → List ℕ → Type 0
IsSearchable forms.File bytes = (code : Syntax) × IsFile bytes code
IsSearchable forms.Facts bytes = (facts : Facts) × AreFacts bytes facts

-- What is answered: the output of the rules and of all bytes that the source had left; or what was in its way.
-- A failed read is told only where the source counted one more.
pub data Answered (words : Option (List (List ℕ))) (old new : Given) : Output → Type 0 where
  wrong_words : command_of words ≡ None → new ≡ old → Answered words old new usage
  told : (form : Form) (rules : List (List ℕ)) (input : List ℕ) (output : Output) → command_of words ≡ Some (form, rules)
      → IsRead old new input → IsOutput form rules input output → Answered words old new output
  unread : (form : Form) (rules : List (List ℕ)) → command_of words ≡ Some (form, rules) → new.failures ≡ old.failures + 1
      → Answered words old new (input_refused form (codes "cannot be read"))
  no_memory_for_input : (form : Form) (rules : List (List ℕ)) → command_of words ≡ Some (form, rules) → new.failures ≡ old.failures
      → Answered words old new (input_refused form (codes "out of memory"))
  no_memory : (form : Form) (rules : List (List ℕ)) (input : List ℕ) → command_of words ≡ Some (form, rules)
      → IsRead old new input → IsSearchable form input → Answered words old new (refused (codes "out of memory"))

-- how an output goes out: whole, with its status; or a write failed, a beginning went out, and the status is 1
pub data Goes (old new : Taken) (output : Output) (status : ℕ) : Type 0 where
  goes_whole : Sent old new output.text true → status ≡ output.status → Goes old new output status
  breaks_off : Sent old new output.text false → status ≡ 1 → Goes old new output status

-- a run answers, and what it answers goes out
pub record Ran (words : Option (List (List ℕ))) (source source' : Given) (sink sink' : Taken) (status : ℕ) : Type 0 where
  pub output : Output
  pub answered : Answered words source source' output
  pub goes : Goes sink sink' output status
