use Rattle.std.proofs.Common.{inl, inr}
use Rattle.std.proofs.lemmas.Result.{IfOk-weaker}
use Rattle.ssr_names.proofs.locals.Locals.is_bound.Goals as goal

pub returns : goal.returns
returns c =
    IfOk-weaker c.is_of_generics.result _ _
    (λ is none free bound. elim bound [ inl local ↦ c.in_ok-is_local.ensures c.if-branch.false local | inr generics ↦ none free generics ])
    c.is_of_generics.ensures
