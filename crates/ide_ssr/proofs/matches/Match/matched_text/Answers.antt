use Rattle.std.proofs.Common.{arith, rules}
use Rattle.std.proofs.lemmas.Grind.{common_steps}
use Rattle.ide_ssr.proofs.matches.Match.matched_text.Goals as goal

pub returns : goal.returns
returns c = first_of (search rules steps 110000, grind (arith, common_steps) steps 110000)
