-- Private: paths that are printed.
use Rattle.std.specs.Prelude.{ℕ, ◌≡◌, Bool, true, List, Some, None, String, string_bytes, ◌⊎◌}
use Rattle.std.specs.BTreeMap.{BTreeMap, get}
use Rattle.std.specs.declared.alloc.Global.{Global}
use Rattle.ssr_names_items.specs.declared.table.Name.{Name}
use Rattle.ssr_names_items.specs.declared.table.ModuleNo.{ModuleNo}
use Rattle.ssr_names_items.specs.declared.table.Namespace.{Namespace}
use Rattle.ssr_names_items.specs.declared.table.Namespace.TheVariants as ns
use Rattle.ssr_names_items.specs.declared.table.Start.{Start}
use Rattle.ssr_names.specs.contracts.provider.PrintedKeyOrd.TheImpl as printed_order
use Rattle.ssr_names.specs.declared.definitions.Definition.{Definition}
use Rattle.ssr_names.specs.declared.printed.Written.{Written}
use Rattle.ssr_names.specs.declared.provider.PrintedKey.{PrintedKey}
use Rattle.ssr_names.specs.declared.space.Space.{Space}
use Rattle.ssr_names.specs.Lookup.{Place}
use Rattle.ssr_names.specs.Printed.{LeadsFrom, Spells}
use Rattle.ssr_names.specs.WholePaths.{WholeStandsFor}

-- a definition is to be written in a namespace
abbrev pub is_in : Written → Namespace → Bool
is_in written ns.Type = written.as_type
is_in written ns.Value = written.as_value
is_in written ns.Macro = written.as_macro

-- a path stands for what is written, in each namespace in which that is, and there is one
pub record Leads (space : Space) (place : Place) (names : List Name) (written : Written) : Type 0 where
  pub namespace : Namespace
  pub among : is_in written namespace ≡ true
  pub each : (n : Namespace) → is_in written n ≡ true → WholeStandsFor space place n names written.definition

-- a text is such a path in a module
pub record IsPathOf (space : Space) (m : ModuleNo) (written : Written) (text : List ℕ) : Type 0 where
  pub start : Start
  pub names : List Name
  pub spelled : Spells space.table.now.names start names text
  pub leads : Leads space (record { start = start; within = m; import = None }) names written

-- the texts of rows lead from their scopes to their definitions
abbrev pub AllLead : Space → List Definition → BTreeMap PrintedKey (String Global) → Type 0
AllLead space definitions printed = (key : PrintedKey) (text : String Global) → get ((printed_order.ghosts).cmp) printed key ≡ Some text
    → LeadsFrom space definitions key.scope key.def (string_bytes text)

-- a text is added to rows, or put in the place of another one
abbrev pub IsPrintedMore : BTreeMap PrintedKey (String Global) → BTreeMap PrintedKey (String Global) → PrintedKey → String Global → Type 0
IsPrintedMore old new added text =
    (key : PrintedKey) (told : String Global) → get ((printed_order.ghosts).cmp) new key ≡ Some told
    → (get ((printed_order.ghosts).cmp) old key ≡ Some told) ⊎ ((key ≡ added) × (told ≡ text))
