use Rattle.std.proofs.Common.{◌≡◌, ◌↔◌, ◌∙◌, All, Option, IfOk, IsSomeAnd, IsTrue, true, false, sym, subst}
use Rattle.ssr_base_trees.specs.declared.ids.ScopeId.{ScopeId}
use Rattle.ide_ssr_resolved_rule.specs.declared.used_paths.UsedPath.{UsedPath}
use Rattle.ide_ssr_search.specs.Printing.{IsReached}
use Rattle.ide_ssr_search.proofs.printing.are_reached_at.Goals as goal

pub returns-in-Some : goal.returns-in-Some
returns-in-Some g c =
    let m = g.S.Semantics.meanings c.args.semantics.now in
    subst
    (λ (o : Option ScopeId). IfOk c.are_reached.result (λ reached. IsTrue reached ↔ IsSomeAnd o (λ scope. All (λ (path : UsedPath). IsReached m scope path.res) c.args.paths.now)))
    (sym c.in-Some.is ∙ c.in_ok-scope.ensures) c.are_reached.ensures

pub returns-in-None : goal.returns-in-None
returns-in-None g c =
    let m = g.S.Semantics.meanings c.args.semantics.now in (
      λ h. let e : false ≡ true = h in cc,
      λ known. absurd (subst (λ (o : Option ScopeId). IsSomeAnd o (λ scope. All (λ (path : UsedPath). IsReached m scope path.res) c.args.paths.now)) (sym c.in_ok-scope.ensures ∙ c.in-None.is) known),
    )
