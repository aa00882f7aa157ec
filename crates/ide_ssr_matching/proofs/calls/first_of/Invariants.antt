use Rattle.std.proofs.Common.{◌≡◌, All}
use Rattle.ssr_syntax_tree.specs.Places.{HasNode}
use Rattle.ide_ssr_matching.specs.Calls.{first_node}
use Rattle.ide_ssr_matching.specs.Private.ChildNodes.{nodes_at}
use Rattle.ide_ssr_matching.proofs.calls.first_of.Given as goal

abbrev pub invariant-loop-node : goal.invariant-loop-node
invariant-loop-node l = record {
  so_far : first_node l.kind (nodes_at l.tree l.node-iterator) ≡ first_node l.kind (nodes_at l.tree l.fn.nodes);
  had : All (λ node. HasNode l.tree node.0) l.node-iterator;
}
