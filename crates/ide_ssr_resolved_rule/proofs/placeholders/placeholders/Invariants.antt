use Rattle.std.proofs.Common.{◌≡◌, map, take}
use Rattle.ssr_syntax_tree.specs.Places.{nodes_of}
use Rattle.ide_ssr_resolved_rule.specs.Placeholders.{placeholder_at}
use Rattle.ide_ssr_resolved_rule.proofs.placeholders.placeholders.Given as goal

abbrev pub invariant-loop-node : goal.invariant-loop-node
invariant-loop-node l = l.table.items ≡ map (placeholder_at l.names) (take l.node (nodes_of l.tree))
