use Rattle.std.proofs.Common.{arith}
use Rattle.ide_ssr_resolved_rule.proofs.Nodes.{table_next, table_all}
use Rattle.ide_ssr_resolved_rule.proofs.placeholders.placeholders.Goals as goal

pub loop-node-preserved : goal.loop-node-preserved
loop-node-preserved c =
    table_next c.args.names.now c.args.tree.now c.loop-node.node _ _ _ (omega arith) c.placeholder_at.ensures c.loop-node.invariant c.in_ok-push.ensures.items

pub returns : goal.returns
returns c = table_all c.args.names.now c.args.tree.now c.loop-node.node _ (omega arith) c.loop-node.invariant
