use Rattle.std.proofs.Common.{◌∙◌, ◌+◌, ℕ, ap, arith}
use Rattle.std.proofs.lemmas.List.{length-map, take_all}
use Rattle.ssr_base_trees.specs.Applied.{change_of, changes_of}
use Rattle.ssr_standing.specs.Ranges.{old_places, place_from}
use Rattle.ssr_standing.proofs.Places.{old_short, one_old, placed}
use Rattle.ssr_standing.proofs.ranges.old_ranges_from.Goals as goal

pub overflow_add-start : goal.overflow_add-start
overflow_add-start c =
    omega (
      arith,
      c.saturating_sub.ensures,
      c.loop-range-item.result.0.ordered,
      old_short c.args.at c.args.from c.args.changes.now c.loop-range.range-index c.loop-range-item.result c.loop-range-test.true c.loop-range-item.is c.requires,
    )

pub overflow_add-end : goal.overflow_add-end
overflow_add-end c =
    omega (
      arith,
      c.saturating_sub-in-loop-range.ensures,
      old_short c.args.at c.args.from c.args.changes.now c.loop-range.range-index c.loop-range-item.result c.loop-range-test.true c.loop-range-item.is c.requires,
    )

pub loop-range-preserved : goal.loop-range-preserved
loop-range-preserved c =
    one_old (place_from c.args.at c.args.from) c.args.changes.now c.loop-range.range-index c.loop-range-item.result c.new.result
    c.loop-range.ranges.items c.push.new.self.items c.loop-range-test.true c.loop-range-item.is c.in_ok-push.ensures.items
    (placed c.args.at c.args.from c.loop-range-item.result c.new.result (c.new.ensures.start ∙ ap (λ (n : ℕ). c.args.at + n) c.saturating_sub.ensures)
    (c.new.ensures.end ∙ ap (λ (n : ℕ). c.args.at + n) c.saturating_sub-in-loop-range.ensures))
    c.loop-range.invariant

pub returns : goal.returns
returns c =
    c.loop-range.invariant
    ∙ ap (old_places c.args.at c.args.from) (take_all c.loop-range.range-index (changes_of c.args.changes.now) (omega (arith, length-map c.args.changes.now change_of)))
