use Rattle.std.proofs.Common.{◌-◌, ◌+◌}
use Rattle.ssr_syntax_tree.specs.Syntax.{node_count}
use Rattle.ide_ssr_resolving.proofs.Walk.{Walked}
use Rattle.ide_ssr_resolving.proofs.used.used_paths.Given as goal

abbrev pub invariant-loop-next : goal.invariant-loop-next
invariant-loop-next g l = Walked (g.S.Semantics.meanings l.semantics) l.fn.scope l.names l.tree l.next l.used.items

abbrev pub decreases-loop-next : goal.decreases-loop-next
decreases-loop-next g l = 1 + node_count l.tree.children - l.next
