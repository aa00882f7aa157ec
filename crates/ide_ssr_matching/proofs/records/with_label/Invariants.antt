use Rattle.std.proofs.Common.{◌≡◌, All}
use Rattle.std.specs.List.{find}
use Rattle.ssr_syntax_tree.specs.Places.{HasNode, node_of}
use Rattle.ide_ssr_matching.specs.Calls.{child_nodes}
use Rattle.ide_ssr_matching.specs.Records.{has_label}
use Rattle.ide_ssr_matching.specs.Private.ChildNodes.{nodes_at}
use Rattle.ide_ssr_matching.specs.Private.Records.{label_texts}
use Rattle.ide_ssr_matching.proofs.records.with_label.Given as goal

abbrev pub invariant-loop-node : goal.invariant-loop-node
invariant-loop-node l = record {
  so_far : find (has_label (label_texts l.tree l.label)) (nodes_at l.code l.node-iterator)
      ≡ find (has_label (label_texts l.tree l.label)) (child_nodes (node_of l.code l.fn.list.0));
  had : All (λ node. HasNode l.code node.0) l.node-iterator;
}
