use Rattle.std.proofs.Common.{inl, refl, sym, subst}
use Rattle.std.proofs.lemmas.Bool.{both_ways}
use Rattle.ssr_base_trees.specs.Workspace.{trees}
use Rattle.ide_ssr_search.specs.Private.Shut.{Shuts}
use Rattle.ide_ssr_search.proofs.known_tree.KnownTree.past.Goals as goal

pub returns-else-shuts : goal.returns-else-shuts
returns-else-shuts c =
    inl (refl, λ shuts. both_ways c.shuts.result c.if-shuts.false (c.shuts.ensures.1 (subst (Shuts (trees c.args.self.now.workspace.now)) (sym c.id.ensures) shuts)))
