-- Maps that are made of the rows of tables mean what these mean.
use Rattle.std.proofs.Common.{◌≡◌, List, [], ◌++◌, ◌||◌, true, Option, Some, string_bytes, sym, ap, ◌∙◌}
use Rattle.std.proofs.Math.Bool.{or-true}
use Rattle.std.proofs.lemmas.List.Folds.{list_any-append}
use Rattle.std.proofs.lemmas.Map.Made.{is_some-lookup}
use Rattle.std.proofs.lemmas.Map.Views.{any-filter_same}
use Rattle.std.specs.Prelude.{filter, Vec, is_some}
use Rattle.std.specs.Global.{Global}
use Rattle.std.specs.BTreeMap.{BTreeMap, get, is_at}
use Rattle.std.specs.List.{list_any}
use Rattle.std.specs.Map.{lookup, keys_of}
use Rattle.std.specs.Option.{option_map, option_map_or}
use Rattle.ssr_base_trees.specs.declared.ids.NodeId.{NodeId}
use Rattle.ssr_base_trees.specs.declared.ids.ScopeId.{ScopeId}
use Rattle.ssr_base_trees.specs.declared.ids.DefId.{DefId}
use Rattle.ssr_base_trees.specs.declared.semantics.Res.{Res}
use Rattle.ssr_base_trees.specs.declared.semantics.Res.TheVariants as res
use Rattle.ssr_base_trees.specs.declared.semantics.SelfKind.TheVariants as self
use Rattle.ssr_facts_rows.specs.declared.meanings.PrintedKey.{PrintedKey}
use Rattle.ssr_facts.specs.declared.tables.Tables.{Tables}
use Rattle.ssr_facts.specs.declared.maps.Maps.{Maps}
use Rattle.ssr_base_trees.specs.contracts.ids.NodeIdOrd.TheImpl as id_order
use Rattle.ssr_base_trees.specs.contracts.semantics.ResOrd.TheImpl as res_order
use Rattle.ssr_facts_rows.specs.contracts.meanings.NameKeyOrd.TheImpl as name_order
use Rattle.ssr_facts_rows.specs.contracts.meanings.MemberKeyOrd.TheImpl as member_order
use Rattle.ssr_facts_rows.specs.contracts.meanings.PrintedKeyOrd.TheImpl as printed_order
use Rattle.ssr_base_trees.specs.Workspace.{same_id}
use Rattle.ssr_base_trees.proofs.Shared.{same_res-itself}
use Rattle.ssr_facts.specs.Tables.{is_name, is_member, is_printed, definition_at, path_of, method_of, callee, stands_for, nodes_for, meanings_of}
use Rattle.ssr_facts.specs.Usages.{uses_of}
use Rattle.ssr_facts.specs.Maps.{path_in, method_in, meanings_in}
use Rattle.ssr_facts.specs.Private.Maps.{IsIndexed, AreMade}
use Rattle.ssr_facts.specs.Private.Complete.{same_nodes}
use Rattle.ssr_base_trees.proofs.Shared.{id_ties}
use Rattle.ssr_facts.proofs.Keys.{printed_ties, name_test, member_test, found_node}
use Rattle.ssr_facts.proofs.Rows.{lookup_alike, found_alike}

-- ** One table.

module _ {V : Type 0} where
  pub at_node : (map : BTreeMap NodeId V) (rows : List (NodeId × V)) → ((q : NodeId) → get ((id_order.ghosts).cmp) map q ≡ lookup (is_at ((id_order.ghosts).cmp q)) rows)
      → (node : NodeId) → lookup (same_id node) map.entries ≡ lookup (same_id node) rows
  at_node map rows says node = found_node map node ∙ says node ∙ sym (lookup_alike (same_id node) (is_at ((id_order.ghosts).cmp node)) (id_ties node) rows)

  at_printed : (map : BTreeMap PrintedKey V) (rows : List (PrintedKey × V))
      → ((q : PrintedKey) → get ((printed_order.ghosts).cmp) map q ≡ lookup (is_at ((printed_order.ghosts).cmp q)) rows)
      → (scope : ScopeId) (def : DefId) → lookup (is_printed scope def) map.entries ≡ lookup (is_printed scope def) rows
  at_printed map rows says scope def =
      let key : PrintedKey = record { scope = scope; def = def } in
      lookup_alike (is_printed scope def) (is_at ((printed_order.ghosts).cmp key)) (printed_ties key) map.entries ∙ says key
      ∙ sym (lookup_alike (is_printed scope def) (is_at ((printed_order.ghosts).cmp key)) (printed_ties key) rows)

-- ** All.

module _ (m : Maps) (t : Tables) (made : AreMade m t) where
  same_path : (node : NodeId) → path_in m node ≡ path_of t node
  same_path = at_node m.paths t.paths.items made.paths

  same_method : (node : NodeId) → method_in m node ≡ method_of t node
  same_method = at_node m.methods t.methods.items made.methods

  same_usages : (r : Res) → uses_of m.usages r ≡ nodes_for r (path_of t) t.paths.items ++ nodes_for r (λ node. callee (method_of t node)) t.methods.items
  same_usages r =
      made.usages r
      ∙ (λ i. nodes_for r (λ node. same_path node i) t.paths.items ++ nodes_for r (λ node. callee (same_method node i)) t.methods.items)

  pub same_meanings : meanings_in m ≡ meanings_of t
  same_meanings = λ i. record {
    scope = λ node. at_node m.scopes t.scopes.items made.scopes node i;
    lookup = λ scope path. found_alike (name_order.ghosts).cmp m.names t.names.items made.names (is_name scope path) (name_test scope path) i;
    member = λ scope adt name. found_alike (member_order.ghosts).cmp m.members t.members.items made.members (is_member scope adt name) (member_test scope adt name) i;
    info = λ def. (definition_at (made.definitions i) def).info;
    adt_type = λ def. (definition_at (made.definitions i) def).adt_type;
    path = λ node. same_path node i;
    method = λ node. option_map (λ m. m.def) (same_method node i);
    types = λ node. option_map (λ v. v.items) (at_node m.types t.types.items made.types node i);
    self_kind = λ node. option_map_or (λ m. m.self_kind) (same_method node i) self.Owned;
    path_from = λ scope def. option_map string_bytes (at_printed m.printed t.printed.items made.printed scope def i);
    usages = λ r. same_usages r i;
  }

-- ** What uses a thing is in the index.

-- an index to which the nodes of all rows were added
pub index_made : (none some all : BTreeMap Res (Vec NodeId Global)) (path call : NodeId → Option Res) (named called : List NodeId) (t : Tables) → none.entries ≡ []
    → ((r : Res) → uses_of some r ≡ uses_of none r ++ filter (λ node. stands_for r (path node)) named)
    → ((r : Res) → uses_of all r ≡ uses_of some r ++ filter (λ node. stands_for r (call node)) called)
    → named ≡ keys_of t.paths.items → called ≡ keys_of t.methods.items → (r : Res) → uses_of all r ≡ nodes_for r path t.paths.items ++ nodes_for r call t.methods.items
index_made none some all path call named called t empty paths calls are_named are_called r =
    calls r ∙ ap (λ xs. xs ++ filter (λ node. stands_for r (call node)) called) (paths r ∙ ap (λ xs. xs ++ filter (λ node. stands_for r (path node)) named) nothing)
    ∙ (λ i. filter (λ node. stands_for r (path node)) (are_named i) ++ filter (λ node. stands_for r (call node)) (are_called i))
  where
    nothing : uses_of none r ≡ []
    nothing = ap (λ es. option_map_or (λ (group : Vec NodeId Global). group.items) (lookup (is_at ((res_order.ghosts).cmp r)) es) []) empty

-- a node that stands for something by a row is among those that stand for it
among_nodes : {V : Type 0} (rows : List (NodeId × V)) (meaning : NodeId → Option Res) (r : Res) (node : NodeId)
    → is_some (lookup (same_id node) rows) ≡ true → meaning node ≡ Some r → list_any (same_id node) (nodes_for r meaning rows) ≡ true
among_nodes rows meaning r node has means =
    any-filter_same (same_id node) (λ other. stands_for r (meaning other)) true
    (λ other same. ap (λ x. stands_for r (meaning x)) (sym (same_nodes node other same)) ∙ ap (stands_for r) means ∙ same_res-itself r) (keys_of rows)
    ∙ sym (is_some-lookup (same_id node) rows) ∙ has

pub indexed : (m : Maps) (t : Tables) → AreMade m t → IsIndexed m
indexed m t made = record {
  paths = λ r node means.
      ap (list_any (same_id node)) (made.usages r)
      ∙ list_any-append (same_id node) (nodes_for r (path_in m) t.paths.items) (nodes_for r (λ node. callee (method_in m node)) t.methods.items)
      ∙ ap (λ b. b || list_any (same_id node) (nodes_for r (λ node. callee (method_in m node)) t.methods.items))
      (among_nodes t.paths.items (path_in m) r node (ap is_some (sym (at_node m.paths t.paths.items made.paths node) ∙ means)) means);
  methods = λ node method means.
      let r = res.Def method.def in
      ap (list_any (same_id node)) (made.usages r)
      ∙ list_any-append (same_id node) (nodes_for r (path_in m) t.paths.items) (nodes_for r (λ node. callee (method_in m node)) t.methods.items)
      ∙ ap (λ b. list_any (same_id node) (nodes_for r (path_in m) t.paths.items) || b)
      (among_nodes t.methods.items (λ node. callee (method_in m node)) r node
      (ap is_some (sym (at_node m.methods t.methods.items made.methods node) ∙ means)) (ap callee means))
      ∙ or-true (list_any (same_id node) (nodes_for r (path_in m) t.paths.items));
}
