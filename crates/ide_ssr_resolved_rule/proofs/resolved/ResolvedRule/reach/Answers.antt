use Rattle.std.proofs.Common.{rules}
use Rattle.ide_ssr_resolved_rule.proofs.resolved.ResolvedRule.reach.Goals as goal

pub returns : goal.returns
returns c = search rules steps 200000
