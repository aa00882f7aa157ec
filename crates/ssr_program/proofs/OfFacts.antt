-- From what the middle of the program answers of facts to what a run answers.
use Rattle.std.proofs.Common.{◌≡◌, ℕ, List, ◌++◌, Result, Err, IfOk, String, Global, string_bytes, codes, refl, ap, subst, sym, ◌∙◌, append_assoc}
use Rattle.std.specs.Prelude.{decimal}
use Rattle.std.specs.declared.alloc.AllocError.{AllocError}
use Rattle.std.proofs.lemmas.Result.{IfOk-weaker}
use Rattle.ssr_syntax_kinds.specs.declared.range.TextRange.{TextRange}
use Rattle.ssr_base_trees.specs.declared.ids.FileRange.{FileRange}
use Rattle.ssr_base_trees.specs.Workspace.{file_span_of}
use Rattle.ssr_facts_rows.specs.Facts.{facts_of}
use Rattle.ide_ssr_rewriting.specs.Clashes.{Clash, clash_of}
use Rattle.ssr_facts.specs.declared.facts.Facts.{Facts}
use Rattle.ssr_facts.specs.declared.facts_error.FactsError.{FactsError}
use Rattle.ssr_facts.specs.declared.facts_error.FactsError.TheVariants as facts
use Rattle.ssr_facts.specs.Reading.{Answers}
use Rattle.ssr_program.specs.declared.commands.Form.TheVariants as forms
use Rattle.ssr_program.specs.declared.rewrite_error.RewriteError.TheVariants as errors
use Rattle.ssr_program.specs.Output.{written, refused, search_refused}
use Rattle.ssr_program.specs.OfFacts.{AreFacts, IsOutputOfFacts, facts_search, names_of, name_at, range_words, clash_words, parts, no_facts, no_search, clash, rewritten}
use Rattle.ssr_searching.specs.Searching.{Changes, ComesTo, refuses, clashes, changes}
use Rattle.ssr_program.specs.Private.Rewriting.{Rewrites}

-- the words of a clash, in the pieces in which they are written
abbrev pieces : List ℕ → TextRange → TextRange → List ℕ
pieces name earlier later =
    codes "replacements clash in " ++ (name ++ (codes " at " ++ (decimal earlier.start ++ (codes ".." ++ (decimal earlier.end
    ++ (codes " and " ++ (decimal later.start ++ (codes ".." ++ decimal later.end))))))))

-- what is written of a clash is its words
pub clash_words_are : (r : Result (String Global) AllocError) (names : List (List ℕ)) (earlier later : FileRange) (name : List ℕ) → name ≡ name_at names earlier.file_id.0
    → IfOk r (λ words. string_bytes words ≡ pieces name earlier.range later.range)
    → IfOk r (λ words. string_bytes words ≡ clash_words names (clash_of (earlier, later)))
clash_words_are r names earlier later name its =
    let start = decimal earlier.range.start in
    let joined =
    ap (λ (words : List ℕ). codes "replacements clash in " ++ (name ++ (codes " at " ++ words)))
    (sym (append_assoc start (codes ".." ++ decimal earlier.range.end) (codes " and " ++ range_words (file_span_of later)))) in
    let named =
    ap (λ (name : List ℕ). codes "replacements clash in " ++ (name ++ (codes " at " ++ (range_words (file_span_of earlier) ++ (codes " and " ++ range_words (file_span_of later)))))) its in
    IfOk-weaker r _ _ (λ words is. is ∙ joined ∙ named)

pub facts_error : (A : Type 0) (rules : List (List ℕ)) (bytes : List ℕ) (error : FactsError) → Answers (facts_of bytes) (Err error)
    → Rewrites {A = A} forms.Facts rules bytes (Err (errors.Facts error))
facts_error A rules bytes facts.NotJson is = (refl, no_facts facts.NotJson (λ same. cc) is)
facts_error A rules bytes facts.Shape is = (refl, no_facts facts.Shape (λ same. cc) is)
facts_error A rules bytes (facts.Workspace refusal) is = (refl, no_facts (facts.Workspace refusal) (λ same. cc) is)
facts_error A rules bytes facts.Memory is = (refl, tt)

module _ (rules : List (List ℕ)) (bytes : List ℕ) (told : Facts) (are : AreFacts bytes told) where
  pub message_told : (message : List ℕ) → ComesTo (facts_search told) rules (refuses message) → IsOutputOfFacts rules bytes (search_refused message)
  message_told message comes = no_search told message are comes

  pub clash_told : (two : Clash) (words : List ℕ) → ComesTo (facts_search told) rules (clashes two) → words ≡ clash_words (names_of told) two
      → IsOutputOfFacts rules bytes (refused words)
  clash_told two words comes is = subst (λ (words : List ℕ). IsOutputOfFacts rules bytes (refused words)) (sym is) (clash told two are comes)

  pub files_written : (new : Changes) (text : List ℕ) → ComesTo (facts_search told) rules (changes new) → text ≡ parts (names_of told) told.workspace.files new
      → IsOutputOfFacts rules bytes (written text)
  files_written new text comes is = subst (λ (text : List ℕ). IsOutputOfFacts rules bytes (written text)) (sym is) (rewritten told new are comes)
