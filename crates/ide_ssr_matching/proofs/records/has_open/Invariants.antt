use Rattle.std.proofs.Common.{◌≡◌, All}
use Rattle.std.specs.List.{list_any}
use Rattle.ssr_syntax_tree.specs.Places.{HasNode, node_of}
use Rattle.ide_ssr_matching.specs.Calls.{child_nodes}
use Rattle.ide_ssr_matching.specs.Records.{is_open}
use Rattle.ide_ssr_matching.specs.Private.ChildNodes.{nodes_at}
use Rattle.ide_ssr_matching.proofs.records.has_open.Given as goal

abbrev pub invariant-loop-node : goal.invariant-loop-node
invariant-loop-node l = record {
  so_far : list_any (is_open l.rule) (nodes_at l.pattern l.node-iterator) ≡ list_any (is_open l.rule) (child_nodes (node_of l.pattern l.fn.list.0));
  had : All (λ node. HasNode l.pattern node.0) l.node-iterator;
}
