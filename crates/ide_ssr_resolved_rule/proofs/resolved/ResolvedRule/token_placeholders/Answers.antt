use Rattle.std.proofs.Common.{arith, rules}
use Rattle.std.proofs.lemmas.Grind.{common_steps}
use Rattle.ide_ssr_resolved_rule.proofs.resolved.ResolvedRule.token_placeholders.Goals as goal

pub returns : goal.returns
returns c = first_of (search rules steps 500000, grind (arith, common_steps) steps 500000)
