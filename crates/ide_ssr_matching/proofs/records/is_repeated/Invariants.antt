use Rattle.std.proofs.Common.{◌≡◌, ◌-◌, ◌≤◌, All, take}
use Rattle.std.specs.List.{list_any}
use Rattle.ssr_syntax_tree.specs.Places.{HasNode, node_of}
use Rattle.ide_ssr_matching.specs.Calls.{child_nodes}
use Rattle.ide_ssr_matching.specs.Records.{have_same_label, has_label}
use Rattle.ide_ssr_matching.specs.Private.ChildNodes.{nodes_at}
use Rattle.ide_ssr_matching.specs.Private.Records.{label_texts}
use Rattle.ide_ssr_matching.proofs.records.is_repeated.Given as goal

abbrev pub invariant-loop : goal.invariant-loop
invariant-loop l = record {
  so_far : list_any (has_label (label_texts l.tree l.label)) (take (l.count - l.counter) (nodes_at l.tree l.nodes))
      ≡ list_any (have_same_label (node_of l.tree l.fn.node.0)) (take l.count (child_nodes (node_of l.tree l.fn.list.0)));
  within : l.counter ≤ l.count;
  had : All (λ node. HasNode l.tree node.0) l.nodes;
}
