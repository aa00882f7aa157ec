-- A list whose only rewrite has the whole range: what is held is its text.
use Rattle.std.proofs.Common.{◌≡◌, ℕ, ◌-◌, true, List, [], ◌∷◌, ◌++◌, drop, take, Some, refl, sym, ◌∙◌, ap, arith, append-nil}
use Rattle.std.specs.Prelude.{slice_range}
use Rattle.std.proofs.lemmas.Bool.Decides.{nat_tests}
use Rattle.ssr_base_trees.specs.Changes.{Change, replaced}
use Rattle.ssr_base_trees.specs.Workspace.{FileSpan, Workspace}
use Rattle.ide_ssr_rewriting.specs.Clashes.{Rewrite}
use Rattle.ide_ssr_rewriting.specs.Fitting.{is_alone}
use Rattle.ide_ssr_rewriting.specs.Replacements.{file_text, rewritten}
use Rattle.ide_ssr_rewriting.proofs.Fittings.{alone_fitted}

abbrev whole : FileSpan → List ℕ → Rewrite
whole range text = record { range = range; text = Some text }

no_bytes : (text : List ℕ) (at : ℕ) → slice_range text at at ≡ []
no_bytes text at =
    let none : at - at ≡ 0 = omega arith in
    ap (λ (count : ℕ). take count (drop at text)) none

alone : (from to : ℕ) (c : Change) → c.start ≡ from → c.end ≡ to → is_alone [] from to (c ∷ []) ≡ true
alone from to c start end = grind (arith, nat_tests)

all_text : (w : Workspace) (range : FileSpan) (text : List ℕ) → rewritten w [] range (whole range text ∷ []) ≡ text
all_text w range text =
    let bytes : List ℕ = file_text w range.file in
    let from : ℕ = range.span.start in
    let to : ℕ = range.span.end in
    let c : Change = record { start = from; end = to; text = text } in
    ap (replaced bytes from to) (alone_fitted w.reach [] bytes from to (c ∷ []) (alone from to c refl refl))
    ∙ ap (λ (front : List ℕ). front ++ (text ++ slice_range bytes to to)) (no_bytes bytes from)
    ∙ ap (λ (behind : List ℕ). text ++ behind) (no_bytes bytes to)
    ∙ append-nil text

pub whole_held : (w : Workspace) (front : List ℕ) (range : FileSpan) (list : List Rewrite) (text : List ℕ) → front ≡ [] → list ≡ whole range text ∷ []
    → text ≡ rewritten w front range list
whole_held w front range list text none is =
    sym (ap (λ (front : List ℕ). rewritten w front range list) none ∙ ap (rewritten w [] range) is ∙ all_text w range text)
