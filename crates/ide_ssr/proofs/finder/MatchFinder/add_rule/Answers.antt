use Rattle.std.proofs.Common.{arith, rules}
use Rattle.std.proofs.lemmas.Grind.{common_steps}
use Rattle.ide_ssr.proofs.finder.MatchFinder.add_rule.Goals as goal

pub returns-in_err-kinds-clause-answer : goal.returns-in_err-kinds-clause-answer
returns-in_err-kinds-clause-answer g c = first_of (search rules steps 340000, grind (arith, common_steps) steps 340000)

pub returns-clause-answer : goal.returns-clause-answer
returns-clause-answer g c = first_of (search rules steps 500000, grind (arith, common_steps) steps 500000)
