use Rattle.std.proofs.Common.{arith}
use Rattle.std.proofs.lemmas.Grind.{common_steps}
use Rattle.ide_ssr_search.proofs.context.restricting.Goals as goal

pub loop-restriction-preserved : goal.loop-restriction-preserved
loop-restriction-preserved c = grind (arith, common_steps) steps 4000000
