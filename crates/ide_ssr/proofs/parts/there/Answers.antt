use Rattle.std.proofs.Common.{arith, rules}
use Rattle.std.proofs.lemmas.Grind.{common_steps}
use Rattle.ide_ssr.proofs.parts.there.Goals as goal

pub returns-in-Some : goal.returns-in-Some
returns-in-Some c = first_of (search rules steps 500000, grind (arith, common_steps) steps 500000)
