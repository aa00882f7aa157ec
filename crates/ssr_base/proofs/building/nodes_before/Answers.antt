use Rattle.std.proofs.Common.{◌<◌, ◌+◌, ◌-◌, ◌/◌, arith}
use Rattle.ssr_syntax_tree.specs.Places.{HasNode}
use Rattle.ssr_base.proofs.Finding.{before_more, from_less}
use Rattle.ssr_base.proofs.building.nodes_before.Goals as goal

pub loop-low-preserved-then-range-offset : goal.loop-low-preserved-then-range-offset
loop-low-preserved-then-range-offset c =
    let tree = c.args.tree.now in
    let middle = c.loop-low.low + (c.loop-low.high - c.loop-low.low) / 2 in
    let known = c.loop-low.invariant in
    let below : middle < c.loop-low.high = omega arith in
    let has : HasNode tree middle = omega (arith, known.within) in
    record {
      ordered = omega arith;
      within = known.within;
      before = before_more tree c.args.offset middle has (omega (arith, c.range.ensures.start, c.if-range-offset.true));
      behind = known.behind;
    }

pub loop-low-preserved : goal.loop-low-preserved
loop-low-preserved c =
    let tree = c.args.tree.now in
    let middle = c.loop-low.low + (c.loop-low.high - c.loop-low.low) / 2 in
    let known = c.loop-low.invariant in
    let below : middle < c.loop-low.high = omega arith in
    let has : HasNode tree middle = omega (arith, known.within) in
    record {
      ordered = omega arith;
      within = omega (arith, known.within);
      before = known.before;
      behind = from_less tree c.args.offset middle has (omega (arith, c.range.ensures.start, c.if-range-offset.false));
    }
