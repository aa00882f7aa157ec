use Rattle.std.proofs.Common.{refl, sym, subst}
use Rattle.std.specs.Prelude.{IfNone, IfSome}
use Rattle.ssr_names.specs.declared.space.Answers.{Answers}
use Rattle.ssr_names.specs.Settled.{IsSettledAt}
use Rattle.ssr_names.specs.Private.Settling.{IsLookedUp, KeepsTaken}
use Rattle.ssr_names.proofs.Settling.{settled_looked_up}
use Rattle.ssr_names.proofs.imports.renew.Goals as goal

pub returns-in-Some-clause-settled : goal.returns-in-Some-clause-settled
returns-in-Some-clause-settled c = λ same.
    let space = c.args.space.now in
    let at = c.in-Some.field-0 in
    let is : IsLookedUp space c.args.place at =
    subst (λ o. IfSome o (IsLookedUp space c.args.place)) c.in-Some.is c.in_ok-had.ensures.found in (
      c.set.ensures.same same,
      settled_looked_up space c.args.place at is
          (subst (λ (a : Answers). KeepsTaken at.found a) (sym (c.set.ensures.held same at.had is.held)) c.kept.ensures),
    )

pub returns-in-None-clause-settled : goal.returns-in-None-clause-settled
returns-in-None-clause-settled c = λ _. (
  refl,
  subst (λ o. IfNone o (IsSettledAt c.args.space.now c.args.place)) c.in-None.is c.in_ok-had.ensures.none,
)
