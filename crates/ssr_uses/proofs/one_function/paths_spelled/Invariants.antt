use Rattle.ssr_uses.proofs.Spelled.{AreUpTo}
use Rattle.ssr_uses.proofs.one_function.paths_spelled.Given as goal

abbrev pub invariant-loop-node : goal.invariant-loop-node
invariant-loop-node l = AreUpTo l.tree l.number l.spelled l.node l.paths.items
