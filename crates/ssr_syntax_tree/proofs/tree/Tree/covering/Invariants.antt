use Rattle.std.proofs.Common.{◌+◌, ◌-◌}
use Rattle.ssr_syntax_tree.specs.Syntax.{node_count}
use Rattle.ssr_syntax_tree.proofs.Covering.{IsBest}
use Rattle.ssr_syntax_tree.proofs.tree.Tree.covering.Given as goal

abbrev pub invariant-loop-next : goal.invariant-loop-next
invariant-loop-next l = IsBest l.self l.range l.next l.found.0 l.depth

abbrev pub decreases-loop-next : goal.decreases-loop-next
decreases-loop-next l = 1 + node_count l.self.children - l.next
