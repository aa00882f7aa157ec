use Rattle.std.proofs.Common.{◌≡◌, sym}
use Rattle.ssr_syntax_tree.specs.Places.{node_of, text_of}
use Rattle.ssr_base_trees.specs.Workspace.{tree_of}
use Rattle.ssr_base_trees.proofs.Shared.{and_some}
use Rattle.ide_ssr_bindings.proofs.Shared.{has_node}
use Rattle.ide_ssr.proofs.Files.{tree_there}
use Rattle.ide_ssr.proofs.parts.text_at.Goals as goal

pub text-requires : goal.text-requires
text-requires c = has_node c.args.workspace.now c.args.node c.in-Some.tree.now (sym c.in-Some.ensures) c.requires

pub returns-in-Some : goal.returns-in-Some
returns-in-Some c =
    and_some (tree_of c.args.workspace.now c.args.node.tree) (λ syntax. c.text.result.now ≡ text_of (node_of syntax c.args.node.node.0)) c.in-Some.tree.now
    (sym c.in-Some.ensures) c.text.ensures

pub returns-in-None : goal.returns-in-None
returns-in-None c = absurd (tree_there c.args.workspace.now c.args.node c.requires (sym c.in-None.ensures))
