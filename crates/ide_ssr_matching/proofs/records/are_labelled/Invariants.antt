use Rattle.std.proofs.Common.{◌≡◌, All}
use Rattle.ssr_syntax_tree.specs.Places.{HasNode, node_of}
use Rattle.ide_ssr_matching.specs.Calls.{child_nodes}
use Rattle.ide_ssr_matching.specs.Records.{are_labelled}
use Rattle.ide_ssr_matching.specs.Private.ChildNodes.{nodes_at}
use Rattle.ide_ssr_matching.proofs.records.are_labelled.Given as goal

abbrev pub invariant-loop-node : goal.invariant-loop-node
invariant-loop-node l = record {
  so_far : are_labelled (nodes_at l.tree l.node-iterator) ≡ are_labelled (child_nodes (node_of l.tree l.fn.list.0));
  had : All (λ node. HasNode l.tree node.0) l.node-iterator;
}
