-- What the provider by names answers.
use Rattle.std.specs.Prelude.{ℕ, ◌==◌, ◌&&◌, Bool, true, false, List, [], ◌∷◌, Option, Some, None, map, filter, slice_get, unwrap_or, string_bytes}
use Rattle.std.specs.Cmp.Lexicographic.{pointwise}
use Rattle.std.specs.BTreeMap.{BTreeMap, get}
use Rattle.std.specs.List.{find}
use Rattle.std.specs.Map.{keys_of}
use Rattle.std.specs.Option.{option_map, option_and_then}
use Rattle.std.specs.Str.{bytes_eq}
use Rattle.ssr_base_trees.specs.declared.ids.NodeId.{NodeId}
use Rattle.ssr_base_trees.specs.declared.ids.ScopeId.{ScopeId}
use Rattle.ssr_base_trees.specs.declared.ids.DefId.{DefId}
use Rattle.ssr_base_trees.specs.declared.semantics.Res.{Res}
use Rattle.ssr_base_trees.specs.declared.semantics.DefInfo.{DefInfo}
use Rattle.ssr_base_trees.specs.declared.semantics.DefKind.{DefKind}
use Rattle.ssr_base_trees.specs.declared.semantics.DefKind.TheVariants as kinds
use Rattle.ssr_base_trees.specs.declared.semantics.Res.TheVariants as res
use Rattle.ssr_base_trees.specs.declared.semantics.SelfKind.TheVariants as takes
use Rattle.ssr_base_trees.specs.Meanings.{Meanings, same_res}
use Rattle.ssr_base_trees.specs.contracts.ids.NodeIdOrd.TheImpl as id_order
use Rattle.ssr_names.specs.declared.provider.Names.{Names}
use Rattle.ssr_names.specs.declared.provider.Lookup.{Lookup}
use Rattle.ssr_names.specs.contracts.provider.PrintedKeyOrd.TheImpl as printed_order
use Rattle.ssr_names.specs.Private.Scopes.{scope_in}

abbrev pub is_lookup : ScopeId → List (List ℕ) → Lookup → Bool
is_lookup scope path row = (row.scope.0 == scope.0) && pointwise bytes_eq (map string_bytes row.path.items) path

abbrev pub is_function : DefKind → Bool
is_function kinds.Function = true
is_function k = false

-- what is known of a definition; where there is none of this number it is a module
abbrev pub info_at : List DefInfo → DefId → DefInfo
info_at definitions def = unwrap_or (slice_get definitions def.0) (record { kind = kinds.Module; assoc = false; takes_self = false })

-- the nodes of the rows that stand for a thing
abbrev pub nodes_for : Res → List (NodeId × Res) → List NodeId
nodes_for r rows = keys_of (filter (λ row. same_res row.1 r) rows)

-- what the path of a rule stands for
abbrev pub looked_up : Names → ScopeId → List (List ℕ) → Option Res
looked_up names scope path = option_map (λ row. row.res) (find (is_lookup scope path) names.lookups.items)

-- the path by which a scope reaches a definition
abbrev pub path_text : Names → ScopeId → DefId → Option (List ℕ)
path_text names scope def = option_map string_bytes (get ((printed_order.ghosts).cmp) names.printed (record { scope = scope; def = def }))

-- what is told where paths of the code stand for what these rows say
abbrev pub told_by : Names → BTreeMap NodeId Res → Meanings
told_by names rows = record {
  scope = λ node. scope_in names.scopes.trees.items node;
  lookup = looked_up names;
  member = λ scope adt name. None;
  info = info_at names.definitions.items;
  adt_type = λ def. record { 0 = def.0 };
  path = λ node. get ((id_order.ghosts).cmp) rows node;
  method = λ call. None;
  types = λ expr. None;
  self_kind = λ call. takes.Owned;
  path_from = path_text names;
  usages = λ r. nodes_for r rows.entries;
}

abbrev pub told : Names → Meanings
told names = told_by names names.known

-- each function behind a type is taken to be a method
abbrev pub believed_info : DefInfo → DefInfo
believed_info info = record { kind = info.kind; assoc = info.assoc; takes_self = info.assoc && is_function info.kind }

-- the definition that a thing is, if it is one
abbrev pub def_of : Res → Option DefId
def_of (res.Def d) = Some d
def_of r = None

-- what is told as the path of a definition that a scope doesn't reach, the text `?`
abbrev pub unreachable : List ℕ
unreachable = 63 ∷ []

-- What is told where undecided paths and method calls stand for what is asked for, and each scope reaches each definition.
abbrev pub believed : Names → Meanings
believed names = record {
  scope = λ node. scope_in names.scopes.trees.items node;
  lookup = looked_up names;
  member = λ scope adt name. None;
  info = λ def. believed_info (info_at names.definitions.items def);
  adt_type = λ def. record { 0 = def.0 };
  path = λ node. get ((id_order.ghosts).cmp) names.believed node;
  method = λ call. option_and_then def_of (get ((id_order.ghosts).cmp) names.believed call);
  types = λ expr. Some names.types.items;
  self_kind = λ call. takes.Owned;
  path_from = λ scope def. Some (unwrap_or (path_text names scope def) unreachable);
  usages = λ r. nodes_for r names.believed.entries;
}
