use Rattle.std.proofs.Common.{◌+◌, ◌-◌}
use Rattle.ssr_syntax_tree.specs.Syntax.{node_count}
use Rattle.ssr_base_trees.specs.Origins.{span_of}
use Rattle.ssr_standing.proofs.Nearest.{IsLast}
use Rattle.ssr_standing.proofs.near.nearest_block.Given as goal

abbrev pub invariant-loop-next : goal.invariant-loop-next
invariant-loop-next l = IsLast l.tree (span_of l.range) l.found l.next

abbrev pub decreases-loop-next : goal.decreases-loop-next
decreases-loop-next l = 1 + node_count l.tree.children - l.next
