use Rattle.ssr_base_trees.specs.Workspace.{trees}
use Rattle.ide_ssr.proofs.Few.{few_kept}
use Rattle.ide_ssr.proofs.Outcome.{outcome_told}
use Rattle.ide_ssr.proofs.finder.MatchFinder.outcome.Goals as goal

pub returns-clause-comes : goal.returns-clause-comes
returns-clause-comes g c =
    outcome_told g.S.Semantics.meanings _ _ c.self.view_is c.args.found.items c.in_ok-kept.kept c.in_ok-lists.lists c.requires c.in_ok-kept.ensures.workspace
    c.in_ok-kept.ensures.kept c.in_ok-kept.ensures.held c.in_ok-lists.ensures

pub returns-clause-few : goal.returns-clause-few
returns-clause-few g c = few_kept (trees _) c.args.found.items c.in_ok-kept.kept.matches c.in_ok-kept.ensures.kept
