use Rattle.std.proofs.Common.{AllPairs, take}
use Rattle.ide_ssr_search.proofs.Apart.{Disjoint}
use Rattle.ide_ssr_search.proofs.whole.are_apart.Given as goal

abbrev pub invariant-loop-place : goal.invariant-loop-place
invariant-loop-place l = AllPairs Disjoint (take l.place l.ranges)
