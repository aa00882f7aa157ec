use Rattle.std.proofs.Common.{arith, rules}
use Rattle.std.proofs.lemmas.Grind.{common_steps}
use Rattle.ide_ssr_matching.proofs.matcher.Matcher.calls_same.Goals as goal

pub returns-in-Some-2 : goal.returns-in-Some-2
returns-in-Some-2 g c = first_of (search rules steps 500000, grind (arith, common_steps) steps 500000)
