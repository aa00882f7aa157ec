-- What a path resolves to.
use Rattle.std.specs.Prelude.{Bool, true, false, Option, Some, None, if◌then◌else◌}
use Rattle.std.specs.Option.{option_map, option_and_then, option_or}
use Rattle.ssr_base_trees.specs.declared.ids.DefId.{DefId}
use Rattle.ssr_base_trees.specs.declared.ids.ScopeId.{ScopeId}
use Rattle.ssr_base_trees.specs.declared.semantics.Res.{Res}
use Rattle.ssr_base_trees.specs.declared.semantics.Res.TheVariants as res
use Rattle.ssr_base_trees.specs.declared.semantics.DefKind.{DefKind}
use Rattle.ssr_base_trees.specs.declared.semantics.DefKind.TheVariants as kinds
use Rattle.ssr_base_trees.specs.Meanings.{Meanings}
use Rattle.ssr_syntax_tree.specs.Syntax.{Forest}
use Rattle.ide_ssr_resolved_rule.specs.Paths.{qualifier, last_name}
use Rattle.ide_ssr_resolving.specs.Keys.{key_of}

abbrev pub is_adt : DefKind → Bool
is_adt kinds.Adt = true
is_adt _ = false

-- the type that a thing is, if it is one
abbrev pub adt_of : Meanings → Res → Option DefId
adt_of m (res.Def d) = if is_adt (m.info d).kind then Some d else None
adt_of m _ = None

module _ (m : Meanings) (scope : ScopeId) where
  -- what the provider tells of a path by its key
  abbrev pub told : Forest → Option Res
  told path = m.lookup scope (key_of path)

  -- the member that a path names of the type that is told of its qualifier
  unfoldable pub told_member : Forest → Option Res
  told_member path =
      option_and_then (λ adt. option_and_then (λ name. option_map res.Def (m.member scope adt name)) (last_name path))
      (option_and_then (adt_of m) (option_and_then told (qualifier path)))

  -- what a path resolves to
  unfoldable pub resolution : Forest → Option Res
  resolution path = option_or (told path) (told_member path)
