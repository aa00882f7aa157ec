-- Private: what the middle of the program answers.
use Rattle.std.specs.Prelude.{ℕ, ◌≡◌, List, Result, Ok, Err, String, string_bytes, codes}
use Rattle.ssr_syntax_tree.specs.Syntax.{Syntax}
use Rattle.ssr_syntax.specs.declared.syntax_error.SyntaxError.{SyntaxError}
use Rattle.ssr_syntax.specs.declared.syntax_error.SyntaxError.TheVariants as syntax
use Rattle.ssr_base_trees.specs.Workspace.{Workspace}
use Rattle.ssr_facts.specs.declared.facts_error.FactsError.TheVariants as facts
use Rattle.ssr_program.specs.declared.commands.Form.{Form}
use Rattle.ssr_program.specs.declared.commands.Form.TheVariants as forms
use Rattle.ssr_program.specs.declared.rewrite_error.RewriteError.{RewriteError}
use Rattle.ssr_program.specs.declared.rewrite_error.RewriteError.TheVariants as errors
use Rattle.ssr_program.specs.Output.{Output, written, refused, input_refused, search_refused}
use Rattle.ssr_program.specs.OfFile.{one_file, text_with, words_of}
use Rattle.ssr_program.specs.OfFacts.{facts_words}
use Rattle.ssr_program.specs.Running.{IsOutput, IsSearchable}
use Rattle.ssr_searching.specs.Searching.{Changes}

-- what is written for an error
abbrev pub told_of : RewriteError → Output
told_of errors.NoText = input_refused forms.File (codes "not UTF-8")
told_of (errors.File error) = input_refused forms.File (words_of error)
told_of (errors.Facts error) = input_refused forms.Facts (facts_words error)
told_of (errors.Search message) = search_refused (string_bytes message)
told_of (errors.Clash words) = refused (string_bytes words)
told_of errors.Memory = refused (codes "out of memory")

-- a new text or an error is the output; only want of memory leaves it open
abbrev pub Rewrites : {A : Type 0} → Form → List (List ℕ) → List ℕ → Result (String A) RewriteError → Type 0
Rewrites form rules bytes (Ok new) = IsOutput form rules bytes (written (string_bytes new))
Rewrites form rules bytes (Err (errors.File syntax.Memory)) = form ≡ forms.File
Rewrites form rules bytes (Err (errors.Facts facts.Memory)) = (form ≡ forms.Facts) × Unit {0}
Rewrites form rules bytes (Err (errors.Facts error)) = (form ≡ forms.Facts) × IsOutput form rules bytes (told_of (errors.Facts error))
Rewrites form rules bytes (Err errors.Memory) = IsSearchable form bytes
Rewrites form rules bytes (Err error) = IsOutput form rules bytes (told_of error)

-- the workspace of a file that is read, or why it isn't one
abbrev pub AnswersFile : Result Syntax SyntaxError → Result Workspace SyntaxError → Type 0
AnswersFile reading (Ok w) = (code : Syntax) × (reading ≡ Ok code) × (w ≡ one_file code)
AnswersFile reading (Err syntax.Memory) = Unit {0}
AnswersFile reading (Err error) = reading ≡ Err error

-- a workspace of one file
abbrev pub IsOneFile : Workspace → Type 0
IsOneFile w = (code : Syntax) × (w ≡ one_file code)

-- the text of a workspace's one file with its changes made
abbrev pub IsNewText : Workspace → Changes → List ℕ → Type 0
IsNewText w new text = (code : Syntax) × (w ≡ one_file code) × (text ≡ text_with code (new 0))
