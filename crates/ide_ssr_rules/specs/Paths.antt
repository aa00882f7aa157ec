-- The paths of a rule that have to resolve: under which keys a provider is asked for them, and what they can stand for.
use Rattle.std.specs.Prelude.{ℕ, ◌&&◌, Bool, false, true, List, [], ◌∷◌, ◌++◌, flat_map, map, string_bytes, if◌then◌else◌}
use Rattle.std.specs.Option.{option_map_or}
use Rattle.ssr_syntax_kinds.specs.Kinds.{same_kind}
use Rattle.ssr_syntax_kinds.specs.declared.kinds.SyntaxKind.{SyntaxKind}
use Rattle.ssr_syntax_kinds.specs.declared.kinds.SyntaxKind.TheVariants as k
use Rattle.ssr_syntax_tree.specs.Places.{Node, node_of, nodes_of}
use Rattle.ssr_syntax_tree.specs.Syntax.{Syntax}
use Rattle.ide_ssr_resolving.specs.Keys.{key_of}
use Rattle.ide_ssr_resolving.specs.Used.{has_to_resolve}
use Rattle.ide_ssr_rules.specs.declared.kinds.ParsedRule.{ParsedRule}
use Rattle.ide_ssr_rules.specs.declared.paths.PathPlace.{PathPlace}
use Rattle.ide_ssr_rules.specs.declared.paths.PathPlace.TheVariants as places
use Rattle.ide_ssr_rules.specs.declared.paths.RulePath.{RulePath}

-- A path in an expression or in a pattern stands for a value, but where its fields are written in braces; that of a macro call for
-- a macro, and any other one for a type.
abbrev pub place_in : SyntaxKind → PathPlace
place_in k.PATH_EXPR = places.Value
place_in k.PATH_PAT = places.Value
place_in k.TUPLE_STRUCT_PAT = places.Value
place_in k.MACRO_CALL = places.Macro
place_in _ = places.Type

-- a key, the place of its path, and whether that is one of a template
pub record AskedPath : Type 0 where
  pub key : List (List ℕ)
  pub place : PathPlace
  pub is_template : Bool

abbrev pub told_path : RulePath → AskedPath
told_path path = record { key = map string_bytes path.key.items; place = path.place; is_template = path.is_template }

module _ (names : List (List ℕ)) where
  -- a node, if it is a path that has to resolve
  abbrev pub paths_at : Bool → Syntax → Node → List AskedPath
  paths_at is_template tree node =
      if same_kind node.kind k.PATH && has_to_resolve names node.children
      then record { key = key_of node.children; place = place_in (node_of tree node.parent).kind; is_template = is_template } ∷ [] else []

  unfoldable pub paths_below : Bool → Syntax → List AskedPath
  paths_below is_template tree = flat_map (paths_at is_template tree) (nodes_of tree)

  -- those of a pattern stand in front of those of its template
  abbrev pub paths_of_kind : ParsedRule → List AskedPath
  paths_of_kind kind = paths_below false kind.pattern ++ option_map_or (paths_below true) kind.template []

  abbrev pub paths_of_kinds : List ParsedRule → List AskedPath
  paths_of_kinds kinds = flat_map paths_of_kind kinds
