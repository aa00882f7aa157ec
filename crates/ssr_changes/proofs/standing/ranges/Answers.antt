use Rattle.std.proofs.Common.{◌≡◌, ℕ, ◌<◌, List, [], ◌∷◌, ◌++◌, length, map, get_or, take, sym, ◌∙◌, ap, arith}
use Rattle.std.proofs.lemmas.List.{length-map, map-append, take_all, take_more}
use Rattle.ssr_base_trees.specs.Changes.{Change}
use Rattle.ssr_base_trees.specs.Applied.{change_of, changes_of}
use Rattle.ssr_base_trees.proofs.Changes.{change_at, shown}
use Rattle.ssr_set_aside.specs.Sparing.{bounds, bounds_of}
use Rattle.ssr_changes.proofs.standing.ranges.Goals as goal

pub loop-range-preserved : goal.loop-range-preserved
loop-range-preserved c =
    let pairs = c.as_slice-range-items.result.now in
    let cs : List Change = changes_of pairs in
    let i : ℕ = c.loop-range.range-index in
    let item = c.loop-range-item.result in
    let d : Change = change_of item in
    let its : get_or cs i d ≡ d = change_at pairs i item d c.loop-range-test.true c.loop-range-item.is in
    let less : i < length cs = omega (arith, length-map pairs change_of) in
    ap (map bounds) c.in_ok-push.ensures.items
    ∙ map-append bounds c.loop-range.ranges.items (item.0 ∷ [])
    ∙ ap (λ (xs : List (ℕ × ℕ)). xs ++ bounds item.0 ∷ []) c.loop-range.invariant
    ∙ sym
    (ap (map bounds_of) (take_more cs i d less ∙ ap (λ (x : Change). take i cs ++ x ∷ []) its) ∙ map-append bounds_of (take i cs) (d ∷ []))

pub returns : goal.returns
returns c =
    let pairs = c.as_slice-range-items.result.now in
    let cs : List Change = changes_of pairs in
    c.loop-range.invariant
    ∙ ap (map bounds_of)
    (take_all c.loop-range.range-index cs (omega (arith, length-map pairs change_of)) ∙ shown c.as_slice-range-items.ensures.value c.iter.ensures.items)
