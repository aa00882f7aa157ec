use Rattle.std.proofs.Common.{refl, sym, subst}
use Rattle.std.specs.Prelude.{IfNone, IfSome}
use Rattle.ssr_names.specs.declared.space.Answers.{Answers}
use Rattle.ssr_names.specs.Settled.{IsSettledAt}
use Rattle.ssr_names.specs.Private.Settling.{IsLookedUp, KeepsTaken}
use Rattle.ssr_names.proofs.Settling.{settled_looked_up}
use Rattle.ssr_names.proofs.imports.doubt.Goals as goal

-- what its path stands for is what it is taken for
pub returns-in_default-clause-settled : goal.returns-in_default-clause-settled
returns-in_default-clause-settled c = λ _.
    let space = c.args.space.now in
    let at = c.in-Some.field-0 in
    let is : IsLookedUp space c.args.place at =
    subst (λ o. IfSome o (IsLookedUp space c.args.place)) c.in-Some.is c.in_ok-had.ensures.found in (
      refl,
      settled_looked_up space c.args.place at is
          (subst (λ (a : Answers). KeepsTaken at.found a) (sym (c.same.ensures c.if-not-same.false)) (λ n d taken. taken)),
    )

-- there is no import
pub returns-in_default-2-clause-settled : goal.returns-in_default-2-clause-settled
returns-in_default-2-clause-settled c = λ _. (
  refl,
  subst (λ o. IfNone o (IsSettledAt c.args.space.now c.args.place)) c.in_default.is c.in_ok-had.ensures.none,
)
