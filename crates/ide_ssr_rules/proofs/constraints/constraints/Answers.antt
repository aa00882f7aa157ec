use Rattle.std.proofs.Common.{arith, sym, ◌∙◌}
use Rattle.std.proofs.lemmas.Result.{err_from_is_err_and}
use Rattle.ide_ssr_rules.proofs.ReadingConstraints.{constraints_closed, constraints_unexpected, constraints_refused, constraints_smaller, constraints_more, constraints_end}
use Rattle.ide_ssr_refusals.proofs.Shared.{tells_refusal}
use Rattle.ide_ssr_rules.proofs.constraints.constraints.Goals as goal

pub returns-then-closes : goal.returns-then-closes
returns-then-closes c =
    constraints_closed _ _ _ _ _ c.loop-token.invariant c.in-Some.ensures (sym c.closes.ensures ∙ c.if-closes.true)

pub returns-then-not-is_colon : goal.returns-then-not-is_colon
returns-then-not-is_colon c =
    tells_refusal _ _ _ (constraints_unexpected _ _ _ _ _ _ c.loop-token.invariant c.in-Some.ensures (sym c.closes.ensures ∙ c.if-closes.false)
    (sym c.is_colon.ensures ∙ c.if-not-is_colon.true) c.text.ensures) c.told.ensures

pub returns-in_err-read_constraint : goal.returns-in_err-read_constraint
returns-in_err-read_constraint c =
    let p = err_from_is_err_and c.from_residual.result c.from_residual.ensures.1 in
    rw (p.1, p.2) (constraints_refused _ _ _ _ _ _ c.loop-token.invariant c.in-Some.ensures (sym c.closes.ensures ∙ c.if-closes.false)
    (sym c.is_colon.ensures ∙ c.if-not-is_colon.false) c.in_err-read_constraint.ensures)

pub loop-token-smaller : goal.loop-token-smaller
loop-token-smaller c = let less = constraints_smaller _ _ _ _ _ c.in-Some.ensures c.in_ok-read_constraint.ensures in omega (arith, less)

pub loop-token-preserved : goal.loop-token-preserved
loop-token-preserved c =
    constraints_more _ _ _ _ _ _ _ _ c.loop-token.invariant c.in-Some.ensures (sym c.closes.ensures ∙ c.if-closes.false)
    (sym c.is_colon.ensures ∙ c.if-not-is_colon.false) c.in_ok-read_constraint.ensures c.in_ok-push.ensures.items

pub returns : goal.returns
returns c = tells_refusal _ _ _ (constraints_end _ _ _ c.loop-token.invariant c.in_default.ensures) c.told-2.ensures
