use Rattle.std.proofs.Common.{◌+◌, ◌-◌, ◌≤◌}
use Rattle.ssr_syntax_tree.specs.Syntax.{node_count}
use Rattle.ssr_base.specs.Private.Finding.{NodesFrom}
use Rattle.ssr_base.proofs.Finding.{AreLeft}
use Rattle.ssr_base.proofs.building.first_call.Given as goal

abbrev pub invariant-loop-next : goal.invariant-loop-next
invariant-loop-next l = record {
  within : l.next ≤ 1 + node_count l.tree.children;
  behind : NodesFrom l.tree l.range.start l.next;
  left : AreLeft l.tree l.range l.next;
}

abbrev pub decreases-loop-next : goal.decreases-loop-next
decreases-loop-next l = (1 + node_count l.tree.children) - l.next
