-- Private: the usages that are known.
use Rattle.std.specs.Prelude.{◌≡◌, IfSome, Vec}
use Rattle.std.specs.BTreeMap.{BTreeMap, get}
use Rattle.std.specs.Global.{Global}
use Rattle.std.specs.Option.{IsSomeAnd}
use Rattle.ssr_base_trees.specs.declared.ids.NodeId.{NodeId}
use Rattle.ssr_base_trees.specs.declared.semantics.Res.{Res}
use Rattle.ssr_base_trees.specs.contracts.semantics.ResOrd.TheImpl as res_order
use Rattle.ssr_base_trees.specs.Meanings.{Meanings}

-- what is known are the usages that a provider tells
abbrev pub KnowsUsages : Meanings → BTreeMap Res (Vec NodeId Global) → Type 0
KnowsUsages m known = (r : Res) → IfSome (get ((res_order.ghosts).cmp) known r) (λ usages. usages.items ≡ m.usages r)

-- those of a thing are known
abbrev pub HasUsages : Meanings → BTreeMap Res (Vec NodeId Global) → Res → Type 0
HasUsages m known r = IsSomeAnd (get ((res_order.ghosts).cmp) known r) (λ usages. usages.items ≡ m.usages r)
