-- What the rows of a facts file say of the names, scopes and types of its workspace. Of several rows that answer one question
-- the first one counts.
use Rattle.std.specs.Prelude.{ℕ, ◌==◌, ◌&&◌, ◌++◌, Bool, false, List, filter, Option}
use Rattle.std.specs.Cmp.Lexicographic.{pointwise}
use Rattle.std.specs.List.{filter_map}
use Rattle.std.specs.Map.{lookup}
use Rattle.std.specs.Option.{option_map, option_map_or, option_and_then}
use Rattle.std.specs.Str.{bytes_eq}
use Rattle.ssr_syntax_kinds.specs.declared.kinds.SyntaxKind.{SyntaxKind}
use Rattle.ssr_syntax_kinds.specs.declared.kinds.SyntaxKind.TheVariants as k
use Rattle.ssr_base_trees.specs.declared.ids.NodeId.{NodeId}
use Rattle.ssr_base_trees.specs.declared.ids.ScopeId.{ScopeId}
use Rattle.ssr_base_trees.specs.declared.ids.DefId.{DefId}
use Rattle.ssr_base_trees.specs.declared.semantics.Res.{Res}
use Rattle.ssr_base_trees.specs.declared.semantics.SelfKind.TheVariants as self
use Rattle.ssr_base_trees.specs.Meanings.{Meanings}
use Rattle.ssr_base_trees.specs.Workspace.{Workspace, same_id}
use Rattle.ssr_facts_rows.specs.declared.places.PlaceRow.{PlaceRow}
use Rattle.ssr_facts_rows.specs.declared.meanings.Method.{Method}
use Rattle.ssr_facts_rows.specs.Meanings.{PlainNameKey, PlainMemberKey}
use Rattle.ssr_facts_rows.specs.Facts.{PlainFacts}
use Rattle.ssr_facts.specs.Tables.{is_printed, definition_at, callee, stands_for}
use Rattle.ssr_facts.specs.Nodes.{place_of, node_at, same_place}
use Rattle.ssr_facts.specs.Scopes.{scope_of}

-- ** Keys of rows that answer a question.

abbrev pub answers_name : ScopeId → List (List ℕ) → PlainNameKey → Bool
answers_name scope path key = (scope.0 == key.scope.0) && pointwise bytes_eq path key.path

abbrev pub answers_member : ScopeId → DefId → List ℕ → PlainMemberKey → Bool
answers_member scope adt name key = (scope.0 == key.scope.0) && ((adt.0 == key.adt.0) && bytes_eq name key.name)

-- whether the node of a kind at a place is this one
abbrev pub names_node : Workspace → SyntaxKind → NodeId → PlaceRow → Bool
names_node w kind node place = option_map_or (same_id node) (node_at w kind place) false

-- ** Meanings.

abbrev pub path_of : Workspace → PlainFacts → NodeId → Option Res
path_of w facts node = lookup (names_node w k.PATH node) facts.paths

abbrev pub method_of : Workspace → PlainFacts → NodeId → Option Method
method_of w facts node = lookup (names_node w k.METHOD_CALL_EXPR node) facts.methods

-- the nodes that rows name and that stand for `r`, in the order of the rows, once for each row
abbrev pub paths_for : Workspace → PlainFacts → Res → List NodeId
paths_for w facts r = filter (λ node. stands_for r (path_of w facts node)) (filter_map (λ row. node_at w k.PATH row.0) facts.paths)

abbrev pub calls_for : Workspace → PlainFacts → Res → List NodeId
calls_for w facts r =
    filter (λ node. stands_for r (callee (method_of w facts node)))
    (filter_map (λ row. node_at w k.METHOD_CALL_EXPR row.0) facts.methods)

abbrev pub meanings_told : Workspace → PlainFacts → Meanings
meanings_told w facts = record {
  scope = λ node. option_and_then (scope_of facts.scopes) (place_of w node);
  lookup = λ scope path. lookup (answers_name scope path) facts.names;
  member = λ scope adt name. lookup (answers_member scope adt name) facts.members;
  info = λ def. (definition_at facts.definitions def).info;
  adt_type = λ def. (definition_at facts.definitions def).adt_type;
  path = path_of w facts;
  method = λ node. option_map (λ m. m.def) (method_of w facts node);
  types = λ node. option_and_then (λ place. lookup (same_place place) facts.types) (place_of w node);
  self_kind = λ node. option_map_or (λ m. m.self_kind) (method_of w facts node) self.Owned;
  path_from = λ scope def. lookup (is_printed scope def) facts.printed;
  usages = λ r. paths_for w facts r ++ calls_for w facts r;
}
