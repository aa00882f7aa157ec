use Rattle.std.proofs.Common.{◌∙◌, map, refl, ap, arith}
use Rattle.std.proofs.lemmas.List.{length-map, take_all}
use Rattle.ssr_base_trees.specs.Applied.{change_of, changes_of}
use Rattle.ssr_base_trees.proofs.Changes.{shown}
use Rattle.ssr_standing.specs.Ranges.{old_place}
use Rattle.ssr_standing.proofs.Places.{one_old}
use Rattle.ssr_standing.proofs.ranges.old_ranges.Goals as goal

pub loop-range-preserved : goal.loop-range-preserved
loop-range-preserved c =
    one_old old_place c.as_slice-range-items.result.now c.loop-range.range-index c.loop-range-item.result c.loop-range-item.result.0
    c.loop-range.ranges.items c.push.new.self.items c.loop-range-test.true c.loop-range-item.is c.in_ok-push.ensures.items refl c.loop-range.invariant

pub returns-clause-ranges : goal.returns-clause-ranges
returns-clause-ranges c =
    let pairs = c.as_slice-range-items.result.now in
    c.loop-range.invariant
    ∙ ap (map old_place) (take_all c.loop-range.range-index (changes_of pairs) (omega (arith, length-map pairs change_of))
    ∙ shown c.as_slice-range-items.ensures.value c.iter.ensures.items)
