use Rattle.std.proofs.Common.{◌↔◌, All, List, Option, IfOk, IfSome, IsSomeAnd, IsTrue, subst}
use Rattle.ssr_syntax_tree.specs.Syntax.{Syntax}
use Rattle.ide_ssr_resolved_rule.specs.declared.used_paths.UsedPath.{UsedPath}
use Rattle.ide_ssr_search.specs.Printing.{IsReached}
use Rattle.ide_ssr_search.proofs.printing.can_be_written.Goals as goal

pub returns-in-Some : goal.returns-in-Some
returns-in-Some g c =
    let m = g.S.Semantics.meanings c.args.semantics.now in
    subst
    (λ (o : Option Syntax). IfOk c.are_reached_at.result
    (λ can. IsTrue can ↔ IfSome o (λ _. IsSomeAnd (m.scope c.args.node) (λ scope. All (λ (path : UsedPath). IsReached m scope path.res) c.args.rule.now.template_paths))))
    c.in-Some.ensures
    (subst
    (λ (paths : List UsedPath). IfOk c.are_reached_at.result (λ can. IsTrue can ↔ IsSomeAnd (m.scope c.args.node) (λ scope. All (λ (path : UsedPath). IsReached m scope path.res) paths)))
    c.template_paths.ensures.paths c.are_reached_at.ensures)
