use Rattle.std.proofs.Common.{◌+◌, ◌-◌, ◌≤◌}
use Rattle.ssr_syntax_tree.specs.Syntax.{node_count}
use Rattle.ssr_base.specs.Private.Finding.{NodesBefore, NodesFrom}
use Rattle.ssr_base.proofs.building.nodes_before.Given as goal

abbrev pub invariant-loop-low : goal.invariant-loop-low
invariant-loop-low l = record {
  ordered : l.low ≤ l.high;
  within : l.high ≤ 1 + node_count l.tree.children;
  before : NodesBefore l.tree l.offset l.low;
  behind : NodesFrom l.tree l.offset l.high;
}

abbrev pub decreases-loop-low : goal.decreases-loop-low
decreases-loop-low l = l.high - l.low
