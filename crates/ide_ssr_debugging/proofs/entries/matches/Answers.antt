use Rattle.ssr_base_trees.specs.Workspace.{trees}
use Rattle.ide_ssr_debugging.proofs.Telling.{matches_told}
use Rattle.ide_ssr_debugging.proofs.entries.matches.Goals as goal

pub returns : goal.returns
returns g c =
    matches_told (λ v. v.items) (trees c.args.workspace.now) (g.S.Semantics.meanings c.args.semantics.now) c.args.rule.now c.args.node
    c.in_ok-found.found c.is_some.result c.is_some.ensures c.in_ok-found.ensures.found
