use Rattle.std.proofs.Common.{arith}
use Rattle.ide_ssr_resolved_rule.proofs.Nodes.{tokens_next, tokens_all}
use Rattle.ide_ssr_resolved_rule.proofs.placeholders.token_placeholders.Goals as goal

pub loop-token-preserved : goal.loop-token-preserved
loop-token-preserved c =
    tokens_next c.args.names.now c.args.tree.now c.loop-token.token _ _ _ (omega arith) c.name_at.ensures c.loop-token.invariant c.in_ok-push.ensures.items

pub returns : goal.returns
returns c = tokens_all c.args.names.now c.args.tree.now c.loop-token.token _ (omega arith) c.loop-token.invariant
