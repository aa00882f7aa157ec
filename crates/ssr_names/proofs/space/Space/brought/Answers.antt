use Rattle.std.proofs.Common.{◌≡◌, true, Some, sym, ◌∙◌}
use Rattle.ssr_names_items.specs.declared.table.Namespace.TheVariants as ns
use Rattle.ssr_names.specs.declared.definitions.Definition.TheVariants as def
use Rattle.ssr_names.specs.declared.definitions.Meaning.TheVariants as meanings
use Rattle.ssr_names.specs.Lookup.{import_at, answer_of, brings_of_enum, brings_outside}
use Rattle.ssr_names.specs.Private.Answered.{BringsModule}
use Rattle.ssr_names.proofs.LookingUp.{of_means, of_sure}
use Rattle.ssr_names.proofs.space.Space.brought.Goals as goal
use Rattle.ssr_names.proofs.space.Space.brought.Goals.{then-is_sure, else-is_sure}

pub returns-in-One-Module-clause-brought : goal.returns-in-One-Module-clause-brought
returns-in-One-Module-clause-brought c =
    let here : answer_of c.args.self.now c.args.number ns.Type ≡ meanings.One (def.Module c.in-One-Module.«module») = cc in
    let brings : BringsModule c.args.self.now c.args.number c.in-Some.import.now c.in-One-Module.«module» = record { is = sym c.in-Some.ensures; stands = here } in
    c.brought_of.ensures.brought c.args.number brings

pub returns-in-One-Module-clause-reached : goal.returns-in-One-Module-clause-reached
returns-in-One-Module-clause-reached c =
    let here : answer_of c.args.self.now c.args.number ns.Type ≡ meanings.One (def.Module c.in-One-Module.«module») = cc in
    let brings : BringsModule c.args.self.now c.args.number c.in-Some.import.now c.in-One-Module.«module» = record { is = sym c.in-Some.ensures; stands = here } in
    c.brought_of.ensures.reached c.args.number brings

pub returns-after-is_sure-clause-brought : goal.returns-after-is_sure-clause-brought
returns-after-is_sure-clause-brought c =
    let row = c.in-Some.import.now in
    let is_row : import_at c.args.self.now c.args.number ≡ Some row = sym c.in-Some.ensures in
    let here : answer_of c.args.self.now c.args.number ns.Type ≡ meanings.One (def.Item c.in-One-Item.item) = cc in
    let of = c.of in
    let surely : c.if-is_sure.of ≡ true → row.is_sure ≡ true = λ is. elim c.if-is_sure.branch [
      | then-is_sure w ↦ w.if-is_sure.true
      | else-is_sure w ↦ sym w.of-is ∙ is
    ] in
    record {
      means = λ d is. brings_of_enum d c.in-One-Item.item here (c.variant-meaning.ensures d (of_means _ _ of.result d of.ensures is));
      sure = λ sure. (row, is_row, surely (of_sure _ _ of.result of.ensures sure));
    }

pub returns-in_ok-meaning-in-One-Outside-clause-brought : goal.returns-in_ok-meaning-in-One-Outside-clause-brought
returns-in_ok-meaning-in-One-Outside-clause-brought c =
    let row = c.in-Some.import.now in
    let is_row : import_at c.args.self.now c.args.number ≡ Some row = sym c.in-Some.ensures in
    let here : answer_of c.args.self.now c.args.number ns.Type ≡ meanings.One (def.Outside c.in-One-Outside.path) = cc in
    let of = c.of-in-One-Outside in
    record {
      means = λ d is. brings_outside d c.in-One-Outside.path here (c.in_ok-meaning-in-One-Outside.ensures d (of_means _ _ of.result d of.ensures is));
      sure = λ sure. (row, is_row, of_sure _ _ of.result of.ensures sure);
    }
