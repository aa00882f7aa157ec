use Rattle.std.proofs.Common.{sym, ◌∙◌}
use Rattle.ssr_base_trees.specs.Workspace.{trees}
use Rattle.ide_ssr_debugging.proofs.Ahead.{node_test, apart_told, lacking_behind, lacking_first, precedes_told}
use Rattle.ide_ssr_debugging.proofs.order.is_ahead.Goals as goal

pub returns-then-a_start-b_start : goal.returns-then-a_start-b_start
returns-then-a_start-b_start c =
    apart_told (trees c.args.workspace.now) c.args.a c.args.b c.start-a_start.result c.start-b_start.result c.start-a_start.ensures c.start-b_start.ensures c.if-a_start-b_start.true

pub returns-then-not-is_node : goal.returns-then-not-is_node
returns-then-not-is_node c =
    lacking_behind (trees c.args.workspace.now) c.args.a c.args.b (sym c.start-a_start.ensures ∙ c.if-a_start-b_start.false ∙ c.start-b_start.ensures) (sym c.if-not-is_node.ensures)

pub returns-then-not-is_node-2 : goal.returns-then-not-is_node-2
returns-then-not-is_node-2 c =
    lacking_first (trees c.args.workspace.now) c.args.a c.args.b (sym c.start-a_start.ensures ∙ c.if-a_start-b_start.false ∙ c.start-b_start.ensures)
    (sym c.if-not-is_node.ensures) (sym c.if-not-is_node-2.ensures)

pub precedes-requires-clause-a_in : goal.precedes-requires-clause-a_in
precedes-requires-clause-a_in c = node_test (trees c.args.workspace.now) c.args.a (sym c.if-not-is_node-2.ensures)

pub precedes-requires-clause-b_in : goal.precedes-requires-clause-b_in
precedes-requires-clause-b_in c = node_test (trees c.args.workspace.now) c.args.b (sym c.if-not-is_node.ensures)

pub returns : goal.returns
returns c =
    precedes_told (trees c.args.workspace.now) c.args.a c.args.b c.precedes.result
    (sym c.start-a_start.ensures ∙ c.if-a_start-b_start.false ∙ c.start-b_start.ensures)
    (sym c.if-not-is_node-2.ensures) (sym c.if-not-is_node.ensures) c.precedes.ensures
