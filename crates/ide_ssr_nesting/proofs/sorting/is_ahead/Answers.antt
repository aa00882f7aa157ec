use Rattle.std.proofs.Common.{sym, ap, ◌∙◌}
use Rattle.ssr_base_trees.specs.Workspace.{trees}
use Rattle.ide_ssr_nesting.specs.Private.Sorting.{is_node}
use Rattle.ide_ssr_nesting.proofs.Ahead.{node_test, lacking_behind, lacking_last, told_ahead}
use Rattle.ide_ssr_nesting.proofs.sorting.is_ahead.Goals as goal

pub returns-then-not-is_node : goal.returns-then-not-is_node
returns-then-not-is_node c =
    lacking_behind (trees c.args.workspace.now) c.requires.grown c.args.k.now c.args.m.now
    (sym (c.if-not-is_node.ensures ∙ ap (is_node (trees c.args.workspace.now)) c.node.ensures))

pub returns-then-not-is_node-2 : goal.returns-then-not-is_node-2
returns-then-not-is_node-2 c =
    lacking_last (trees c.args.workspace.now) c.requires.grown c.args.k.now c.args.m.now
    (sym (c.if-not-is_node.ensures ∙ ap (is_node (trees c.args.workspace.now)) c.node.ensures))
    (sym (c.if-not-is_node-2.ensures ∙ ap (is_node (trees c.args.workspace.now)) c.node-2.ensures))

pub comes_before-requires-clause-k_in : goal.comes_before-requires-clause-k_in
comes_before-requires-clause-k_in c =
    node_test (trees c.args.workspace.now) c.args.k.now.node (sym (c.if-not-is_node.ensures ∙ ap (is_node (trees c.args.workspace.now)) c.node.ensures))

pub comes_before-requires-clause-m_in : goal.comes_before-requires-clause-m_in
comes_before-requires-clause-m_in c =
    node_test (trees c.args.workspace.now) c.args.m.now.node (sym (c.if-not-is_node-2.ensures ∙ ap (is_node (trees c.args.workspace.now)) c.node-2.ensures))

pub returns : goal.returns
returns c =
    told_ahead (trees c.args.workspace.now) c.requires.grown c.args.k.now c.args.m.now c.comes_before.result
    (sym (c.if-not-is_node.ensures ∙ ap (is_node (trees c.args.workspace.now)) c.node.ensures))
    (sym (c.if-not-is_node-2.ensures ∙ ap (is_node (trees c.args.workspace.now)) c.node-2.ensures))
    c.comes_before.ensures
