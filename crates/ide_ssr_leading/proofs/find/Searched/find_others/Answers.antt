use Rattle.std.proofs.Common.{sym, subst}
use Rattle.ssr_base_trees.specs.Workspace.{trees}
use Rattle.ide_ssr_nesting.specs.Kept.{AreEnough}
use Rattle.ide_ssr_search.specs.Found.{IsFoundOf}
use Rattle.ide_ssr_leading.proofs.Together.{none_wanted}
use Rattle.ide_ssr_leading.proofs.find.Searched.find_others.Goals as goal

pub returns-then-are_unset-clause-found : goal.returns-then-are_unset-clause-found
returns-then-are_unset-clause-found g c =
    let s = c.args.self.now in
    let m = g.S.Semantics.meanings c.args.semantics.now in
    subst (AreEnough (trees s.workspace.now) (IsFoundOf s.workspace.now m s.context.now c.args.others.rules.now c.args.others.flags.now)) (sym c.new.ensures.items)
    (none_wanted s.workspace.now m s.context.now c.args.others.rules.now c.args.others.flags.now (c.are_unset.ensures c.if-are_unset.true))
