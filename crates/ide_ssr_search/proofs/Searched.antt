-- Which ranges are searched.
use Rattle.std.proofs.Common.{◌≡◌, ℕ, ◌<◌, ◌≤◌, List, [], ◌∷◌, length, map, get_or, sym, ◌∙◌, subst, inl, inr, arith}
use Rattle.std.proofs.lemmas.List.{get_or-map, length-map}
use Rattle.ssr_base_trees.specs.declared.ids.FileRange.{FileRange}
use Rattle.ssr_base_trees.specs.Workspace.{FileSpan, file_span_of}
use Rattle.ssr_base_trees.specs.Laws.{LiesIn}
use Rattle.ide_ssr_search.specs.Permitted.{IsSearched}

pub searched_nowhere : (rs : List FileRange) (range : FileSpan) (n : ℕ) → length rs ≤ n → 0 < length rs
    → ((k : ℕ) (d : FileRange) → k < n → ¬ LiesIn range (file_span_of (get_or rs k d))) → ¬ IsSearched (map file_span_of rs) range
searched_nowhere [] range n all some none is = absurd (omega arith)
searched_nowhere (r ∷ rs) range n all some none (inl no_restrictions) = absurd (let e : file_span_of r ∷ map file_span_of rs ≡ [] = no_restrictions in cc)
searched_nowhere (r ∷ rs) range n all some none (inr one) =
    let place = one.1 in
    let within : place.0 < length (r ∷ rs) = omega (arith, place.1, length-map (r ∷ rs) file_span_of) in
    none place.0 r (omega arith)
    (subst (LiesIn range) (sym place.2 ∙ get_or-map file_span_of (r ∷ rs) place.0 r one.0 within) one.2)
