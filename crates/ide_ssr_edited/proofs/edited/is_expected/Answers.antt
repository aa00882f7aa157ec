use Rattle.std.proofs.Common.{All, subst}
use Rattle.ssr_base_trees.specs.Workspace.{Workspace, trees}
use Rattle.ide_ssr_bindings.specs.Found.{IsMatch}
use Rattle.ide_ssr_edited.proofs.Outermost.{outermost_within}
use Rattle.ide_ssr_edited.proofs.edited.is_expected.Goals as goal

pub places_in-requires : goal.places_in-requires
places_in-requires c = outermost_within c.args.kept.now c.args.lists.now c.requires.kept c.requires.lists

pub swaps-requires-clause-matches : goal.swaps-requires-clause-matches
swaps-requires-clause-matches c =
    subst (λ (w : Workspace). All (IsMatch (trees w)) c.args.kept.now.matches) c.requires.workspace c.requires.kept.held.each
