use Rattle.std.proofs.Common.{sym, subst}
use Rattle.std.proofs.lemmas.Option.{IfSome_then}
use Rattle.ssr_names_items.specs.declared.table.Start.{Start}
use Rattle.ssr_names.specs.Lookup.{IsBase, by_crate, by_self, by_super}
use Rattle.ssr_names.proofs.space.Space.base.Goals as goal

pub returns-in-Crate : goal.returns-in-Crate
returns-in-Crate c =
    subst (λ (s : Start). IsBase c.args.self.now c.args.«module» s c.root_of.result) (sym c.in-Crate.is) (by_crate c.root_of.result c.root_of.ensures)

pub returns-in-SelfModule : goal.returns-in-SelfModule
returns-in-SelfModule c =
    subst (λ (s : Start). IsBase c.args.self.now c.args.«module» s c.plain_module.result) (sym c.in-SelfModule.is) (by_self c.plain_module.result c.plain_module.ensures)

pub returns-in-Super : goal.returns-in-Super
returns-in-Super c =
    IfSome_then c.module_up.result c.module_up.ensures
    (λ up is. subst (λ (s : Start). IsBase c.args.self.now c.args.«module» s up) (sym c.in-Super.is)
    (by_super c.in-Super.count c.plain_module-in-Super.result up c.plain_module-in-Super.ensures is))
