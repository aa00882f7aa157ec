use Rattle.std.proofs.Common.{subst}
use Rattle.std.proofs.lemmas.Result.{IfOk-weaker}
use Rattle.ssr_names.specs.Private.Macros.{IsOwnMacro, macro_own, macro_by_path, macro_outside}
use Rattle.ssr_names.proofs.space.Space.macro_named.Goals as goal

pub returns-then-is_brought_in : goal.returns-then-is_brought_in
returns-then-is_brought_in c = λ d is. macro_by_path d (c.in_ok-answer-in-None.ensures d (c.imported_macro.ensures d is))

pub returns-in_default-meaning : goal.returns-in_default-meaning
returns-in_default-meaning c = IfOk-weaker c.foreign_macro.result _ _ (λ found means d is. macro_outside d (means d is)) c.foreign_macro.ensures

pub returns-in-One : goal.returns-in-One
returns-in-One c = λ d is.
    macro_own c.in-One.item d (subst (IsOwnMacro c.args.self.now c.args.name) c.in-One.is c.own_macros.ensures) (c.one_macro.ensures d is)
