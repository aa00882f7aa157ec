-- From what the middle of the program answers of a file to what a run answers.
use Rattle.std.proofs.Common.{◌≡◌, ◌≢◌, ℕ, List, [], refl, Ok, Err, ap, subst, sym, ◌∙◌}
use Rattle.std.specs.Str.{IsUtf8}
use Rattle.ssr_syntax_tree.specs.Syntax.{Syntax}
use Rattle.ssr_syntax.specs.Reading.{file_reading}
use Rattle.ssr_syntax.specs.declared.syntax_error.SyntaxError.{SyntaxError}
use Rattle.ssr_syntax.specs.declared.syntax_error.SyntaxError.TheVariants as syntax
use Rattle.ssr_base_trees.specs.declared.ids.FileRange.{FileRange}
use Rattle.ssr_base_trees.specs.Workspace.{Workspace}
use Rattle.ide_ssr_search.specs.Making.{first_position}
use Rattle.ide_ssr.proofs.Shared.{none_clash}
use Rattle.ide_ssr_rewriting.specs.Clashes.{Clash}
use Rattle.ssr_program.specs.declared.commands.Form.TheVariants as forms
use Rattle.ssr_program.specs.declared.rewrite_error.RewriteError.TheVariants as errors
use Rattle.ssr_program.specs.Output.{written, input_refused, search_refused}
use Rattle.ssr_program.specs.OfFile.{IsFile, IsOutputOfFile, file_search, no_file, no_search, rewritten, one_file, text_with, words_of}
use Rattle.ssr_searching.specs.Searching.{Search, Changes, ComesTo, Outcome, refuses, clashes, changes, no_finder, no_rules, clash, edited}
use Rattle.ssr_program.specs.Private.Rewriting.{AnswersFile, IsNewText, Rewrites}
use Rattle.ssr_searching.specs.Unresolved.{nothing_resolves}
use Rattle.ssr_program.proofs.OneText.{one_code}

module _ (text bytes : List ℕ) (same : text ≡ bytes) (utf8 : IsUtf8 text) where
  pub is_file : (code : Syntax) → file_reading text ≡ Ok code → IsFile bytes code
  is_file code is = record { text = subst IsUtf8 same utf8; read = ap file_reading (sym same) ∙ is }

  told_as : (rules : List (List ℕ)) (error : SyntaxError) → error ≢ syntax.Memory → file_reading text ≡ Err error
      → IsOutputOfFile rules bytes (input_refused forms.File (words_of error))
  told_as rules error some is = no_file error some (subst IsUtf8 same utf8) (ap file_reading (sym same) ∙ is)

  pub file_error : (A : Type 0) (rules : List (List ℕ)) (error : SyntaxError) → AnswersFile (file_reading text) (Err error)
      → Rewrites {A = A} forms.File rules bytes (Err (errors.File error))
  file_error A rules syntax.Lex is = told_as rules syntax.Lex (λ same. cc) is
  file_error A rules syntax.NoTree is = told_as rules syntax.NoTree (λ same. cc) is
  file_error A rules syntax.TooDeep is = told_as rules syntax.TooDeep (λ same. cc) is
  file_error A rules syntax.TooLong is = told_as rules syntax.TooLong (λ same. cc) is
  file_error A rules syntax.Memory is = refl

-- ** No clash.

abbrev IsNoClash : Outcome → Type 0
IsNoClash (refuses message) = Unit {0}
IsNoClash (clashes two) = ⊥
IsNoClash (changes new) = Unit {0}

no_clash : (code : Syntax) (rules : List (List ℕ)) (outcome : Outcome) → ComesTo (file_search code) rules outcome → IsNoClash outcome
no_clash code rules _ (no_finder why other made) = tt
no_clash code rules _ (no_rules context why made read) = tt
no_clash code rules _ (clash finder earlier later is told) = none_clash finder (ap (λ (w : Workspace). w.expansions) is.workspace) earlier later told
no_clash code rules _ (edited finder found is told) = tt

-- without expansions nothing clashes
pub never_clashes : (code : Syntax) (rules : List (List ℕ)) (two : Clash) → ComesTo (file_search code) rules (clashes two) → ⊥
never_clashes code rules two comes = no_clash code rules _ comes

-- ** The new text.

pub new_text_is : (rules : List (List ℕ)) (bytes : List ℕ) (code : Syntax) (w : Workspace) (new : Changes) (text : List ℕ) → IsFile bytes code → w ≡ one_file code
    → ComesTo (file_search code) rules (changes new) → IsNewText w new text → IsOutputOfFile rules bytes (written text)
new_text_is rules bytes code w new text file is comes (other, same, made) =
    let text_is : text_with code (new 0) ≡ text = ap (λ (code : Syntax). text_with code (new 0)) (one_code code other (sym is ∙ same)) ∙ sym made in
    subst (λ (text : List ℕ). IsOutputOfFile rules bytes (written text)) text_is (rewritten code new file comes)

-- the search of a workspace that is a file is the file's
pub of_one : (code : Syntax) (w : Workspace) (ranges : List FileRange) (P : Search → Type 0) → w ≡ one_file code → ranges ≡ []
    → P (record { workspace = w; meanings = nothing_resolves; position = first_position; ranges = ranges }) → P (file_search code)
of_one code w ranges P one none h =
    let made : Workspace → List FileRange → Search =
    λ w ranges. record { workspace = w; meanings = nothing_resolves; position = first_position; ranges = ranges } in
    subst (λ ranges. P (made (one_file code) ranges)) none (subst (λ w. P (made w ranges)) one h)

-- the message of a refused search of a workspace that is a file
pub message_told : (rules : List (List ℕ)) (bytes : List ℕ) (code : Syntax) (w : Workspace) (ranges : List FileRange) (message : List ℕ) → IsFile bytes code
    → w ≡ one_file code → ranges ≡ []
    → ComesTo (record { workspace = w; meanings = nothing_resolves; position = first_position; ranges = ranges }) rules (refuses message)
    → IsOutputOfFile rules bytes (search_refused message)
message_told rules bytes code w ranges message file one none comes =
    no_search code message file (of_one code w ranges (λ s. ComesTo s rules (refuses message)) one none comes)
