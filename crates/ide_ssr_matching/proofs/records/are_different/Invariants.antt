use Rattle.std.proofs.Common.{◌+◌, ◌<◌, ◌^◌, All, length}
use Rattle.ssr_syntax_tree.specs.Places.{HasNode, node_of}
use Rattle.ide_ssr_matching.specs.Calls.{child_nodes}
use Rattle.ide_ssr_matching.proofs.LabelSteps.{AreNewSoFar}
use Rattle.ide_ssr_matching.proofs.records.are_different.Given as goal

abbrev pub invariant-loop-node : goal.invariant-loop-node
invariant-loop-node l = record {
  new : AreNewSoFar l.tree (child_nodes (node_of l.tree l.fn.list.0)) l.count l.node-iterator;
  few : l.count + length l.node-iterator < 2 ^ 33;
  had : All (λ node. HasNode l.tree node.0) l.node-iterator;
}
