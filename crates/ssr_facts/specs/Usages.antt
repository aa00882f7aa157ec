-- The nodes that use a thing, as they are stored.
use Rattle.std.specs.Prelude.{List, Vec}
use Rattle.std.specs.BTreeMap.{BTreeMap}
use Rattle.std.specs.Global.{Global}
use Rattle.ssr_base_trees.specs.declared.ids.NodeId.{NodeId}
use Rattle.ssr_base_trees.specs.declared.semantics.Res.{Res}
use Rattle.ssr_base_trees.specs.contracts.semantics.ResOrd.TheImpl as res_order
use Rattle.ssr_facts.specs.Grouping.{group_at}

abbrev pub uses_of : BTreeMap Res (Vec NodeId Global) → Res → List NodeId
uses_of usages r = group_at ((res_order.ghosts).cmp) usages r
