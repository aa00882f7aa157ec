use Rattle.std.proofs.Common.{arith}
use Rattle.ide_ssr_resolved_rule.proofs.TemplateTables.{unprinted_next, unprinted_all}
use Rattle.ide_ssr_resolved_rule.proofs.templates.unprinted_tokens.Goals as goal

pub loop-token-preserved : goal.loop-token-preserved
loop-token-preserved c =
    unprinted_next c.args.names.now c.args.tree.now c.loop-token.token _ _ _ (omega arith) c.unprinted.ensures c.loop-token.invariant c.in_ok-push.ensures.items

pub returns : goal.returns
returns c = unprinted_all c.args.names.now c.args.tree.now c.loop-token.token _ (omega arith) c.loop-token.invariant
