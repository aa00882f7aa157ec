use Rattle.ide_ssr_search.proofs.PositionNodes.{IsLastSpanning}
use Rattle.ide_ssr_search.proofs.positions.parent_of.Given as goal

abbrev pub invariant-loop-number : goal.invariant-loop-number
invariant-loop-number l = IsLastSpanning l.tree l.fn.token.0 l.number l.found
