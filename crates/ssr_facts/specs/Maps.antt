-- What tables mean once they are maps.
use Rattle.std.specs.Prelude.{Option, string_bytes}
use Rattle.std.specs.Map.{lookup}
use Rattle.std.specs.Option.{option_map, option_map_or}
use Rattle.ssr_base_trees.specs.declared.ids.NodeId.{NodeId}
use Rattle.ssr_base_trees.specs.declared.semantics.Res.{Res}
use Rattle.ssr_base_trees.specs.declared.semantics.SelfKind.TheVariants as self
use Rattle.ssr_facts_rows.specs.declared.meanings.Method.{Method}
use Rattle.ssr_facts.specs.declared.maps.Maps.{Maps}
use Rattle.ssr_base_trees.specs.Meanings.{Meanings}
use Rattle.ssr_base_trees.specs.Workspace.{same_id}
use Rattle.ssr_facts.specs.Tables.{is_name, is_member, is_printed, definition_at}
use Rattle.ssr_facts.specs.Usages.{uses_of}

abbrev pub path_in : Maps → NodeId → Option Res
path_in m node = lookup (same_id node) m.paths.entries

abbrev pub method_in : Maps → NodeId → Option Method
method_in m node = lookup (same_id node) m.methods.entries

abbrev pub meanings_in : Maps → Meanings
meanings_in m = record {
  scope = λ node. lookup (same_id node) m.scopes.entries;
  lookup = λ scope path. lookup (is_name scope path) m.names.entries;
  member = λ scope adt name. lookup (is_member scope adt name) m.members.entries;
  info = λ def. (definition_at m.definitions.items def).info;
  adt_type = λ def. (definition_at m.definitions.items def).adt_type;
  path = path_in m;
  method = λ node. option_map (λ m. m.def) (method_in m node);
  types = λ node. option_map (λ v. v.items) (lookup (same_id node) m.types.entries);
  self_kind = λ node. option_map_or (λ m. m.self_kind) (method_in m node) self.Owned;
  path_from = λ scope def. option_map string_bytes (lookup (is_printed scope def) m.printed.entries);
  usages = uses_of m.usages;
}
