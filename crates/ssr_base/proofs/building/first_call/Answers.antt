use Rattle.std.proofs.Common.{sym, ◌∙◌, arith}
use Rattle.ssr_syntax_tree.specs.Places.{HasNode}
use Rattle.ssr_base.proofs.Finding.{left_first, left_next, left_found, left_none, all_elsewhere}
use Rattle.ssr_base.proofs.building.first_call.Goals as goal

pub loop-next-init : goal.loop-next-init
loop-next-init c =
    let known = c.nodes_before-next.ensures in
    record {
      within = known.within;
      behind = known.behind;
      left = left_first c.args.tree.now c.args.range c.nodes_before-next.result known.within known.before;
    }

pub loop-next-preserved : goal.loop-next-preserved
loop-next-preserved c =
    let tree = c.args.tree.now in
    let n = c.loop-next.next in
    let has : HasNode tree n = omega arith in
    record {
      within = omega arith;
      behind = λ m h le. c.loop-next.invariant.behind m h (omega arith);
      left = left_next tree c.args.range n has (sym c.is_call.ensures ∙ c.if-is_call.false) c.loop-next.invariant.left;
    }

pub returns-then-is_call : goal.returns-then-is_call
returns-then-is_call c =
    let tree = c.args.tree.now in
    let n = c.loop-next.next in
    let has : HasNode tree n = omega arith in
    left_found tree c.args.range n has (sym c.is_call.ensures ∙ c.if-is_call.true) c.loop-next.invariant.left

pub returns-then-range : goal.returns-then-range
returns-then-range c =
    let tree = c.args.tree.now in
    let n = c.loop-next.next in
    let has : HasNode tree n = omega arith in
    left_none tree c.args.range n c.loop-next.invariant.within c.loop-next.invariant.left
    (all_elsewhere tree c.args.range.start n has c.loop-next.invariant.behind (λ e. c.if-range.true (c.range.ensures.start ∙ e)))

pub returns : goal.returns
returns c =
    left_none c.args.tree.now c.args.range c.loop-next.next c.loop-next.invariant.within c.loop-next.invariant.left
    (λ m h le e. omega arith)
