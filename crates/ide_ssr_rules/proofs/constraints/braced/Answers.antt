use Rattle.std.proofs.Common.{sym, ◌∙◌}
use Rattle.std.proofs.lemmas.Result.{err_from_is_err_and}
use Rattle.ide_ssr_rules.proofs.ReadingConstraints.{braced_end, braced_refused, braced_unnamed, braced_read}
use Rattle.ide_ssr_refusals.proofs.Shared.{tells_refusal}
use Rattle.ide_ssr_rules.proofs.constraints.braced.Goals as goal

pub returns-in_default : goal.returns-in_default
returns-in_default c = tells_refusal _ _ _ (braced_end _ c.in_default.ensures) c.told.ensures

pub returns-in_err-constraints : goal.returns-in_err-constraints
returns-in_err-constraints c =
    let p = err_from_is_err_and c.from_residual.result c.from_residual.ensures.1 in
    rw (p.1, p.2) (braced_refused _ _ _ c.in-Some.ensures _ c.in_err-constraints.ensures)

pub returns-then-not-is_ident : goal.returns-then-not-is_ident
returns-then-not-is_ident c =
    tells_refusal _ _ _ (braced_unnamed _ _ _ c.in-Some.ensures _ c.in_ok-constraints.ensures (sym c.is_ident.ensures ∙ c.if-not-is_ident.true))
    c.told-then-not-is_ident.ensures

pub returns : goal.returns
returns c =
    braced_read _ _ _ c.in-Some.ensures _ _ c.text.ensures c.in_ok-constraints.ensures (sym c.is_ident.ensures ∙ c.if-not-is_ident.false)
