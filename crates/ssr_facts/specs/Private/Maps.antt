-- Private: that maps have what tables say, and each use of a thing.
use Rattle.std.specs.Prelude.{◌≡◌, ◌++◌, true, Some}
use Rattle.std.specs.BTreeMap.{get, is_at}
use Rattle.std.specs.List.{list_any}
use Rattle.std.specs.Map.{lookup}
use Rattle.ssr_base_trees.specs.declared.ids.NodeId.{NodeId}
use Rattle.ssr_base_trees.specs.declared.semantics.Res.{Res}
use Rattle.ssr_base_trees.specs.declared.semantics.Res.TheVariants as res
use Rattle.ssr_facts_rows.specs.declared.meanings.Method.{Method}
use Rattle.ssr_facts_rows.specs.declared.meanings.NameKey.{NameKey}
use Rattle.ssr_facts_rows.specs.declared.meanings.MemberKey.{MemberKey}
use Rattle.ssr_facts_rows.specs.declared.meanings.PrintedKey.{PrintedKey}
use Rattle.ssr_facts.specs.declared.tables.Tables.{Tables}
use Rattle.ssr_facts.specs.declared.maps.Maps.{Maps}
use Rattle.ssr_base_trees.specs.contracts.ids.NodeIdOrd.TheImpl as id_order
use Rattle.ssr_facts_rows.specs.contracts.meanings.NameKeyOrd.TheImpl as name_order
use Rattle.ssr_facts_rows.specs.contracts.meanings.MemberKeyOrd.TheImpl as member_order
use Rattle.ssr_facts_rows.specs.contracts.meanings.PrintedKeyOrd.TheImpl as printed_order
use Rattle.ssr_base_trees.specs.Workspace.{same_id}
use Rattle.ssr_facts.specs.Tables.{callee, nodes_for}
use Rattle.ssr_facts.specs.Maps.{path_in, method_in}
use Rattle.ssr_facts.specs.Usages.{uses_of}

-- each node that stands for a thing is among those that use it
pub record IsIndexed (m : Maps) : Type 0 where
  pub paths : (r : Res) (node : NodeId) → path_in m node ≡ Some r → list_any (same_id node) (uses_of m.usages r) ≡ true
  pub methods : (node : NodeId) (method : Method) → method_in m node ≡ Some method → list_any (same_id node) (uses_of m.usages (res.Def method.def)) ≡ true

-- each map has what the rows of its table say
pub record AreMade (m : Maps) (t : Tables) : Type 0 where
  pub definitions : m.definitions.items ≡ t.definitions.items
  pub scopes : (q : NodeId) → get ((id_order.ghosts).cmp) m.scopes q ≡ lookup (is_at ((id_order.ghosts).cmp q)) t.scopes.items
  pub names : (q : NameKey) → get ((name_order.ghosts).cmp) m.names q ≡ lookup (is_at ((name_order.ghosts).cmp q)) t.names.items
  pub members : (q : MemberKey) → get ((member_order.ghosts).cmp) m.members q ≡ lookup (is_at ((member_order.ghosts).cmp q)) t.members.items
  pub paths : (q : NodeId) → get ((id_order.ghosts).cmp) m.paths q ≡ lookup (is_at ((id_order.ghosts).cmp q)) t.paths.items
  pub methods : (q : NodeId) → get ((id_order.ghosts).cmp) m.methods q ≡ lookup (is_at ((id_order.ghosts).cmp q)) t.methods.items
  pub types : (q : NodeId) → get ((id_order.ghosts).cmp) m.types q ≡ lookup (is_at ((id_order.ghosts).cmp q)) t.types.items
  pub printed : (q : PrintedKey) → get ((printed_order.ghosts).cmp) m.printed q ≡ lookup (is_at ((printed_order.ghosts).cmp q)) t.printed.items
  pub usages : (r : Res) → uses_of m.usages r ≡ nodes_for r (path_in m) t.paths.items ++ nodes_for r (λ node. callee (method_in m node)) t.methods.items
