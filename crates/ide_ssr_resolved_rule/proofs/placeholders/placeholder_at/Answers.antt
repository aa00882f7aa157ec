use Rattle.std.proofs.Common.{ap, ◌∙◌}
use Rattle.std.specs.Option.{option_and_then}
use Rattle.ide_ssr_resolved_rule.specs.StandIns.{name_at}
use Rattle.ide_ssr_resolved_rule.specs.Placeholders.{placeholder_at}
use Rattle.ide_ssr_resolved_rule.proofs.placeholders.placeholder_at.Goals as goal

pub returns-in_err-only_token : goal.returns-in_err-only_token
unfolding placeholder_at
returns-in_err-only_token c = c.from_residual.ensures ∙ ap (option_and_then (name_at c.args.names.now)) c.in_err-only_token.ensures.token

pub returns : goal.returns
unfolding placeholder_at
returns c = c.name_at.ensures ∙ ap (option_and_then (name_at c.args.names.now)) c.in_ok-only_token.ensures.token
