use Rattle.std.proofs.Common.{sym, ◌∙◌, ap}
use Rattle.ssr_base_trees.specs.Workspace.{tree_of}
use Rattle.ide_ssr_bindings.proofs.Shared.{has_held}
use Rattle.ide_ssr_rewriting.proofs.replacements.push_kept.Goals as goal

pub kept_comments-requires-clause-bindings : goal.kept_comments-requires-clause-bindings
kept_comments-requires-clause-bindings c =
    rw c.bindings.ensures
    (has_held c.args.workspace.now c.args.m.now c.in-Some.tree.now
    (ap (λ x. tree_of c.args.workspace.now x.tree) (sym c.node.ensures) ∙ sym c.in-Some.ensures) c.requires)
