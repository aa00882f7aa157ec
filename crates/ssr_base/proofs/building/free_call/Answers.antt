use Rattle.std.proofs.Common.{rules}
use Rattle.ssr_base.proofs.Calls.{free_no_tree, free_no_call, free_taken, free_found}
use Rattle.ssr_base.proofs.building.free_call.Goals as goal

pub returns-in_err-tree : goal.returns-in_err-tree
returns-in_err-tree c =
    rw (← free_no_tree c.args.trees.now c.args.tree c.args.range c.in_err-tree.ensures) (search rules)

pub returns-in_err-node : goal.returns-in_err-node
returns-in_err-node c =
    rw (← free_no_call c.args.trees.now c.args.tree c.args.range c.in_ok-tree.field-0.now c.in_ok-tree.ensures c.in_err-node.ensures) (search rules)

pub returns-in-Some : goal.returns-in-Some
returns-in-Some c =
    free_taken c.args.trees.now c.args.tree c.in_ok-node.node.0 c.args.range c.in_ok-tree.field-0.now c.in-Some.field-0 c.in_ok-tree.ensures c.in_ok-node.ensures c.in-Some.ensures

pub returns-in-None : goal.returns-in-None
returns-in-None c =
    free_found c.args.trees.now c.args.tree c.in_ok-node.node.0 c.args.range c.in_ok-tree.field-0.now c.in_ok-tree.ensures c.in_ok-node.ensures c.in-None.ensures
