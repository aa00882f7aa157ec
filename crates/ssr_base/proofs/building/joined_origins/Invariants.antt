use Rattle.ssr_base.proofs.Joining.{AreSoFar}
use Rattle.ssr_base.proofs.building.joined_origins.Given as goal

abbrev pub invariant-loop-token : goal.invariant-loop-token
invariant-loop-token l = AreSoFar l.tree l.tokens l.origins.items l.token l.rest
