-- What is written for rules and the bytes of a file, in which nothing resolves.
use Rattle.std.specs.Prelude.{ℕ, ◌≡◌, ◌≢◌, List, [], ◌∷◌, Option, Some, None, Ok, Err, IsUtf8, codes}
use Rattle.ssr_syntax_tree.specs.Syntax.{Syntax, source_of}
use Rattle.ssr_syntax.specs.Reading.{file_reading}
use Rattle.ssr_syntax.specs.declared.syntax_error.SyntaxError.{SyntaxError}
use Rattle.ssr_syntax.specs.declared.syntax_error.SyntaxError.TheVariants as errors
use Rattle.ssr_base_trees.specs.Changes.{Change}
use Rattle.ssr_base_trees.specs.Growth.{only_files}
use Rattle.ssr_base_trees.specs.Workspace.{Workspace}
use Rattle.ide_ssr_search.specs.Making.{first_position}
use Rattle.ssr_program.specs.declared.commands.Form.TheVariants as forms
use Rattle.ssr_program.specs.Output.{Output, written, input_refused, search_refused}
use Rattle.ssr_base.specs.Editing.{new_text}
use Rattle.ssr_searching.specs.Searching.{Search, Changes, ComesTo, refuses, changes}
use Rattle.ssr_searching.specs.Unresolved.{nothing_resolves}

-- the workspace of one file, in which no macro call stands for anything
abbrev pub one_file : Syntax → Workspace
one_file code = only_files (code ∷ [])

-- the search of a whole file
abbrev pub file_search : Syntax → Search
file_search code = record { workspace = one_file code; meanings = nothing_resolves; position = first_position; ranges = [] }

-- why a text is no file
abbrev pub words_of : SyntaxError → List ℕ
words_of errors.Lex = codes "not tokens of this grammar"
words_of errors.NoTree = codes "not a file of this grammar"
words_of errors.TooDeep = codes "nested too deeply"
words_of errors.TooLong = codes "text too long"
words_of errors.Memory = codes "out of memory"

-- the text of a file with its changes made, if it has some
abbrev pub text_with : Syntax → Option (List Change) → List ℕ
text_with code None = source_of code
text_with code (Some cs) = new_text code cs

pub record IsFile (bytes : List ℕ) (code : Syntax) : Type 0 where
  pub text : IsUtf8 bytes
  pub read : file_reading bytes ≡ Ok code

pub data IsOutputOfFile (rules : List (List ℕ)) (bytes : List ℕ) : Output → Type 0 where
  no_text : ¬ IsUtf8 bytes → IsOutputOfFile rules bytes (input_refused forms.File (codes "not UTF-8"))
  no_file : (error : SyntaxError) → error ≢ errors.Memory → IsUtf8 bytes → file_reading bytes ≡ Err error
      → IsOutputOfFile rules bytes (input_refused forms.File (words_of error))
  no_search : (code : Syntax) (message : List ℕ) → IsFile bytes code → ComesTo (file_search code) rules (refuses message)
      → IsOutputOfFile rules bytes (search_refused message)
  rewritten : (code : Syntax) (new : Changes) → IsFile bytes code → ComesTo (file_search code) rules (changes new)
      → IsOutputOfFile rules bytes (written (text_with code (new 0)))
