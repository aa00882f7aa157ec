use Rattle.std.proofs.Common.{Ok, ap, sym, ◌∙◌}
use Rattle.std.proofs.lemmas.Result.{err_from_is_err_and}
use Rattle.ide_ssr_rules.proofs.KindByKind.{template_unresolved, pattern_unresolved, kind_resolved}
use Rattle.ide_ssr_rules.proofs.resolved.resolved_kind.Goals as goal

pub returns-in_err-template_paths : goal.returns-in_err-template_paths
returns-in_err-template_paths g c =
    let p = err_from_is_err_and c.from_residual.result c.from_residual.ensures.1 in
    let refused = rw c.as_ref-template.ensures.value at c.in_err-template_paths.ensures.paths in
    rw (p.1, p.2) (template_unresolved (g.S.Semantics.meanings c.args.semantics.now) c.args.scope _ _ c.args.kind _ refused)

pub returns-in_err-pattern_paths : goal.returns-in_err-pattern_paths
returns-in_err-pattern_paths g c =
    let p = err_from_is_err_and c.from_residual-in_err-pattern_paths.result c.from_residual-in_err-pattern_paths.ensures.1 in
    let template = rw c.as_ref-template.ensures.value at c.in_ok-template_paths.ensures.paths in
    rw (p.1, p.2) (pattern_unresolved (g.S.Semantics.meanings c.args.semantics.now) c.args.scope _ _ c.args.kind _ _ template c.in_err-pattern_paths.ensures.paths)

pub returns : goal.returns
returns g c =
    let template = rw c.as_ref-template.ensures.value at c.in_ok-template_paths.ensures.paths in
    kind_resolved (g.S.Semantics.meanings c.args.semantics.now) c.args.scope _ _ c.args.kind _ _ template c.in_ok-pattern_paths.ensures.paths
    ∙ ap Ok (sym c.in_ok-resolved_with.ensures)
