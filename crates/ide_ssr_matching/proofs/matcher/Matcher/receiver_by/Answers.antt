use Rattle.std.proofs.Common.{arith, rules}
use Rattle.std.proofs.lemmas.Grind.{common_steps}
use Rattle.ide_ssr_matching.proofs.matcher.Matcher.receiver_by.Goals as goal

pub returns : goal.returns
returns g c = first_of (search rules steps 2000000, grind (arith, common_steps) steps 2000000)
