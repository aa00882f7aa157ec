-- What is told of texts alone: all code stands in one scope, in which nothing is known.
use Rattle.std.specs.Prelude.{[], Some, None, false}
use Rattle.ssr_base_trees.specs.declared.ids.ScopeId.{ScopeId}
use Rattle.ssr_base_trees.specs.Meanings.{Meanings}
use Rattle.ssr_base_trees.specs.declared.semantics.DefKind.TheVariants as kinds
use Rattle.ssr_base_trees.specs.declared.semantics.SelfKind.TheVariants as takes

abbrev pub one_scope : ScopeId
one_scope = record { 0 = 0 }

abbrev pub nothing_resolves : Meanings
nothing_resolves = record {
  scope = λ node. Some one_scope;
  lookup = λ scope path. None;
  member = λ scope type name. None;
  info = λ def. record { kind = kinds.Module; assoc = false; takes_self = false };
  adt_type = λ def. record { 0 = 0 };
  path = λ node. None;
  method = λ call. None;
  types = λ expr. None;
  self_kind = λ call. takes.Owned;
  path_from = λ scope def. None;
  usages = λ res. [];
}
