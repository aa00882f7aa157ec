use Rattle.std.proofs.Common.{◌≡◌, suc, length, ap, arith}
use Rattle.ssr_syntax_tree.specs.Places.{HasNode}
use Rattle.ide_ssr_matching.proofs.ChildNodes.{nodes_behind}
use Rattle.ide_ssr_matching.proofs.LabelSteps.{new_next}
use Rattle.ide_ssr_matching.proofs.records.are_different.Goals as goal

pub loop-node-preserved : goal.loop-node-preserved
loop-node-preserved c =
    let tree = c.args.tree.now in
    let first = c.in-Some.node in
    let left = c.loop-node.node-iterator in
    let behind = c.next.new.self in
    let steps = c.in-Some.ensures.steps in
    let shorter : length left ≡ suc (length behind) = ap length steps in
    record {
      new = new_next tree _ c.loop-node.count first left behind steps c.loop-node.invariant.new _ c.is_repeated.ensures c.if-is_repeated.false;
      few = omega (arith, c.loop-node.invariant.few);
      had = nodes_behind (λ node. HasNode tree node.0) first left behind steps c.loop-node.invariant.had;
    }
