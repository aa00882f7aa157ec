use Rattle.std.proofs.Common.{◌≡◌, true, Option, Some, None, refl, sym, ◌∙◌, inl, inr}
use Rattle.std.specs.Prelude.{is_some}
use Rattle.std.proofs.lemmas.Result.{IfOk-weaker}
use Rattle.ssr_names_items.specs.declared.table.ImportNo.{ImportNo}
use Rattle.ssr_names.specs.Lookup.{begins_plain, begins_in_root, begins_globally, begins_based}
use Rattle.ssr_names.proofs.space.Space.first.Goals as goal

some_of : (o : Option ImportNo) → is_some o ≡ true → (i : ImportNo) × (o ≡ Some i)
some_of (Some i) is = (i, refl)
some_of None is = cc

pub returns-in-Plain : goal.returns-in-Plain
returns-in-Plain c =
    IfOk-weaker c.first_name.result _ _
    (λ found means d is. elim (means d is) [
      | inl here ↦ begins_plain d c.in-Plain.is here
      | inr root ↦ (let import = some_of c.args.path.import (sym c.is_some-is_import.ensures ∙ root.0) in begins_in_root d import.0 c.in-Plain.is import.1 root.1)
    ])
    c.first_name.ensures

pub returns-in-Global : goal.returns-in-Global
returns-in-Global c = IfOk-weaker c.global_name.result _ _ (λ found means d is. begins_globally d c.in-Global.is (means d is)) c.global_name.ensures

pub returns-in_ok-found-in-Some : goal.returns-in_ok-found-in-Some
returns-in_ok-found-in-Some c = λ d is. begins_based c.in-Some.base d c.in-Some.ensures (c.in_ok-found-in-Some.ensures.means d is)
