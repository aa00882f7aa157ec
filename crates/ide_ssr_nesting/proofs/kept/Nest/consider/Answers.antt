use Rattle.ssr_base_trees.specs.Workspace.{trees}
use Rattle.ide_ssr_nesting.proofs.Nearest.{pushed}
use Rattle.ide_ssr_nesting.proofs.kept.Nest.consider.Goals as goal

pub returns-in_ok-push-2-clause-held : goal.returns-in_ok-push-2-clause-held
returns-in_ok-push-2-clause-held c =
    pushed (trees c.args.workspace.now) c.requires.built.grown _ _ c.requires.held _ c.requires.match_in c.requires.behind c.in-Some.holder c.in-Some.ensures
    _ c.in_ok-push.ensures.items _ c.in_ok-push-2.ensures.items
