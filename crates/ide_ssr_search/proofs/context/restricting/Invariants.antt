use Rattle.std.proofs.Common.{◌≡◌, take}
use Rattle.ide_ssr_search.specs.Making.{restricting}
use Rattle.ide_ssr_search.proofs.context.restricting.Given as goal

abbrev pub invariant-loop-restriction : goal.invariant-loop-restriction
invariant-loop-restriction l = l.kept.items ≡ restricting (take l.restriction-index l.restrictions)
