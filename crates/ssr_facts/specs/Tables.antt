-- What tables mean: of the rows of a table with one key the first one counts.
use Rattle.std.specs.Prelude.{ℕ, ◌==◌, ◌&&◌, ◌++◌, Bool, false, List, map, filter, slice_get, unwrap_or, Option, string_bytes}
use Rattle.std.specs.Cmp.Lexicographic.{pointwise}
use Rattle.std.specs.Map.{lookup, keys_of}
use Rattle.std.specs.Option.{option_map, option_map_or}
use Rattle.std.specs.Str.{bytes_eq}
use Rattle.ssr_base_trees.specs.declared.ids.NodeId.{NodeId}
use Rattle.ssr_base_trees.specs.declared.ids.ScopeId.{ScopeId}
use Rattle.ssr_base_trees.specs.declared.ids.DefId.{DefId}
use Rattle.ssr_base_trees.specs.declared.semantics.Res.{Res}
use Rattle.ssr_base_trees.specs.declared.semantics.Res.TheVariants as res
use Rattle.ssr_base_trees.specs.declared.semantics.DefKind.TheVariants as kinds
use Rattle.ssr_base_trees.specs.declared.semantics.SelfKind.TheVariants as self
use Rattle.ssr_facts_rows.specs.declared.meanings.Definition.{Definition}
use Rattle.ssr_facts_rows.specs.declared.meanings.NameKey.{NameKey}
use Rattle.ssr_facts_rows.specs.declared.meanings.MemberKey.{MemberKey}
use Rattle.ssr_facts_rows.specs.declared.meanings.PrintedKey.{PrintedKey}
use Rattle.ssr_facts_rows.specs.declared.meanings.Method.{Method}
use Rattle.ssr_facts.specs.declared.tables.Tables.{Tables}
use Rattle.ssr_base_trees.specs.Meanings.{Meanings, same_res}
use Rattle.ssr_base_trees.specs.Workspace.{same_id}

-- ** Keys: which of them are asked for.

abbrev pub is_name : ScopeId → List (List ℕ) → NameKey → Bool
is_name scope path key = (scope.0 == key.scope.0) && pointwise bytes_eq path (map string_bytes key.path.items)

abbrev pub is_member : ScopeId → DefId → List ℕ → MemberKey → Bool
is_member scope adt name key = (scope.0 == key.scope.0) && ((adt.0 == key.adt.0) && bytes_eq name (string_bytes key.name))

abbrev pub is_printed : ScopeId → DefId → PrintedKey → Bool
is_printed scope def key = (scope.0 == key.scope.0) && (def.0 == key.def.0)

-- ** Meanings.

-- the definition of a number; where there is none, a module that declares type 0
abbrev pub definition_at : List Definition → DefId → Definition
definition_at definitions def =
    unwrap_or (slice_get definitions def.0)
    (record { info = record { kind = kinds.Module; assoc = false; takes_self = false }; adt_type = record { 0 = 0 } })

abbrev pub path_of : Tables → NodeId → Option Res
path_of t node = lookup (same_id node) t.paths.items

abbrev pub method_of : Tables → NodeId → Option Method
method_of t node = lookup (same_id node) t.methods.items

-- what a method call stands for
abbrev pub callee : Option Method → Option Res
callee method = option_map (λ m. res.Def m.def) method

-- whether something stands for `r`
abbrev pub stands_for : Res → Option Res → Bool
stands_for r meaning = option_map_or (λ s. same_res s r) meaning false

-- the nodes that rows name and that stand for `r`, in the order of the rows, once for each row
abbrev pub nodes_for : {A : Type 0} → Res → (NodeId → Option Res) → List (NodeId × A) → List NodeId
nodes_for r meaning rows = filter (λ node. stands_for r (meaning node)) (keys_of rows)

-- Of a thing, the nodes of the paths that stand for it are its usages, and then those of the method calls that call it.
abbrev pub meanings_of : Tables → Meanings
meanings_of t = record {
  scope = λ node. lookup (same_id node) t.scopes.items;
  lookup = λ scope path. lookup (is_name scope path) t.names.items;
  member = λ scope adt name. lookup (is_member scope adt name) t.members.items;
  info = λ def. (definition_at t.definitions.items def).info;
  adt_type = λ def. (definition_at t.definitions.items def).adt_type;
  path = path_of t;
  method = λ node. option_map (λ m. m.def) (method_of t node);
  types = λ node. option_map (λ v. v.items) (lookup (same_id node) t.types.items);
  self_kind = λ node. option_map_or (λ m. m.self_kind) (method_of t node) self.Owned;
  path_from = λ scope def. option_map string_bytes (lookup (is_printed scope def) t.printed.items);
  usages = λ r. nodes_for r (path_of t) t.paths.items ++ nodes_for r (λ node. callee (method_of t node)) t.methods.items;
}
