use Rattle.ide_ssr_debugging.proofs.Ahead.{node_told, no_node}
use Rattle.ide_ssr_debugging.proofs.order.is_node.Goals as goal

pub returns-in-Some : goal.returns-in-Some
returns-in-Some c = node_told c.args.workspace.now c.args.node c.in-Some.tree.now c.has.result c.in-Some.ensures c.has.ensures

pub returns-in-None : goal.returns-in-None
returns-in-None c = no_node c.args.workspace.now c.args.node c.in-None.ensures
