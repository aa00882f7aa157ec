use Rattle.std.proofs.Common.{refl, sym, ◌∙◌}
use Rattle.toml.proofs.Views.{table_get}
use Rattle.ssr_package.proofs.manifest.is_off.Goals as goal

pub returns-in-Some-as_bool : goal.returns-in-Some-as_bool
returns-in-Some-as_bool c =
    let found = table_get c.get.result c.args.key.now c.args.table.now.entries c.get.ensures.value in
    let on = sym c.as_bool.ensures ∙ c.in-Some-as_bool.is in
    rw (← rw c.in-Some.is at found, on) refl

pub returns-in-None-as_bool : goal.returns-in-None-as_bool
returns-in-None-as_bool c =
    let found = table_get c.get.result c.args.key.now c.args.table.now.entries c.get.ensures.value in
    let none = sym c.as_bool.ensures ∙ c.in-None-as_bool.is in
    rw (← rw c.in-Some.is at found, none) refl

pub returns-in-None : goal.returns-in-None
returns-in-None c =
    let found = table_get c.get.result c.args.key.now c.args.table.now.entries c.get.ensures.value in
    rw (← rw c.in-None.is at found) refl
