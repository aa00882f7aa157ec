use Rattle.ide_ssr_rules.proofs.Uses.{accepted_uses}
use Rattle.ide_ssr_rules.proofs.rules.SsrRule.parse_of.Goals as goal

pub returns : goal.returns
returns c = record { reads = c.in_ok-parsed.ensures; uses = accepted_uses c.args.reach _ _ c.in_ok-parsed.ensures }
