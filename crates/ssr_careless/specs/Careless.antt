-- What a provider tells that is careless of usages.
use Rattle.std.specs.Prelude.{List, ◌++◌}
use Rattle.ssr_base_trees.specs.declared.ids.NodeId.{NodeId}
use Rattle.ssr_base_trees.specs.Meanings.{Meanings}

-- all as another one tells it, but of usages each twice, and strays in front
abbrev pub careless : Meanings → List NodeId → Meanings
careless m strays = record {
  scope = m.scope;
  lookup = m.lookup;
  member = m.member;
  info = m.info;
  adt_type = m.adt_type;
  path = m.path;
  method = m.method;
  types = m.types;
  self_kind = m.self_kind;
  path_from = m.path_from;
  usages = λ r. (strays ++ m.usages r) ++ m.usages r;
}
