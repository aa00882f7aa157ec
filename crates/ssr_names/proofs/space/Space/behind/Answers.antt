use Rattle.std.proofs.Common.{refl, sym, subst, inl, inr}
use Rattle.std.proofs.lemmas.Result.{IfOk-weaker}
use Rattle.ssr_names.specs.Lookup.{IsBehind, IsUnaliased, behind_module, behind_declared, behind_undeclared, behind_outside}
use Rattle.ssr_names.proofs.space.Space.behind.Goals as goal

pub returns-in_ok-found-in-Module : goal.returns-in_ok-found-in-Module
returns-in_ok-found-in-Module c = λ d is.
    let plain = subst (IsUnaliased c.args.self.now c.args.definition) c.in-Module.is (c.in-One.ensures c.in-One.plain refl) in
    behind_module c.in-Module.«module» d plain (c.in_ok-found-in-Module.ensures.means d is)

pub returns-in-Item : goal.returns-in-Item
returns-in-Item c = λ d is.
    let plain = subst (IsUnaliased c.args.self.now c.args.definition) c.in-Item.is (c.in-One.ensures c.in-One.plain refl) in
    elim (c.behind_item.ensures d is) [
      | inl one ↦ behind_declared c.in-Item.item d plain one
      | inr other ↦ subst (IsBehind c.args.self.now c.args.question c.args.definition) (sym other) (behind_undeclared c.in-Item.item plain)
    ]

pub returns-in-Outside : goal.returns-in-Outside
returns-in-Outside c =
    let plain = subst (IsUnaliased c.args.self.now c.args.definition) c.in-Outside.is (c.in-One.ensures c.in-One.plain refl) in
    IfOk-weaker c.behind_outside.result _ _ (λ found means d is. behind_outside c.in-Outside.path d plain (means d is)) c.behind_outside.ensures
