use Rattle.std.proofs.Common.{refl, subst}
use Rattle.ssr_base_trees.specs.Workspace.{trees}
use Rattle.ide_ssr_search.specs.Private.Bounds.{AreBounds}
use Rattle.ide_ssr_search.proofs.Placed.{file_placed}
use Rattle.ide_ssr_search.proofs.whole.is_placed_match.Goals as goal

pub returns-in-Everywhere : goal.returns-in-Everywhere
returns-in-Everywhere c =
    let ts = trees c.args.workspace.now in (
      λ _. file_placed ts c.args.node c.args.bindings.now (subst (AreBounds ts c.args.node.tree) c.in-Everywhere.is c.requires.bounds) c.requires.matched,
      λ _. refl,
    )
