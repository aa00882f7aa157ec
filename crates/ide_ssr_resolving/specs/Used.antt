-- The paths of a tree that are used: what they resolve to counts, and not how they are spelled.
use Rattle.std.specs.Prelude.{ℕ, ◌≡◌, ◌+◌, Bool, true, false, not, nat_lt, ◌&&◌, ◌||◌, List, Option, Some, None, Result, Ok, Err, bytes_eq, codes, if◌then◌else◌}
use Rattle.std.specs.List.{filter, filter_map, find, list_any}
use Rattle.std.specs.Option.{is_none, is_some, option_map, option_map_or, option_and_then}
use Rattle.ssr_syntax_kinds.specs.declared.kinds.SyntaxKind.TheVariants as k
use Rattle.ssr_syntax_kinds.specs.Kinds.{same_kind, is_ident}
use Rattle.ssr_syntax_tree.specs.declared.number.NodeNo.{NodeNo}
use Rattle.ssr_syntax_tree.specs.Places.{Node, HasNode, nodes_of, size_of}
use Rattle.ssr_syntax_tree.specs.Syntax.{Token, Forest, Syntax, tokens_in}
use Rattle.ssr_base_trees.specs.declared.ids.ScopeId.{ScopeId}
use Rattle.ssr_base_trees.specs.declared.semantics.Res.{Res}
use Rattle.ssr_base_trees.specs.declared.semantics.Res.TheVariants as res
use Rattle.ssr_base_trees.specs.declared.semantics.DefInfo.{DefInfo}
use Rattle.ssr_base_trees.specs.declared.semantics.DefKind.{DefKind}
use Rattle.ssr_base_trees.specs.declared.semantics.DefKind.TheVariants as kinds
use Rattle.ssr_base_trees.specs.Meanings.{Meanings}
use Rattle.ide_ssr_resolved_rule.specs.StandIns.{is_stand_in}
use Rattle.ide_ssr_resolved_rule.specs.declared.used_paths.UsedPath.{UsedPath}
use Rattle.ide_ssr_resolving.specs.declared.used.Unresolved.{Unresolved}
use Rattle.ide_ssr_resolving.specs.declared.used.Unresolved.TheVariants as errors
use Rattle.ide_ssr_resolved_rule.specs.Paths.{below_first, qualifying, last_name, without_arguments}
use Rattle.ide_ssr_resolving.specs.Resolving.{resolution}

-- ** Which paths have to resolve.

abbrev pub ends_in_self : Forest → Bool
ends_in_self path = option_map_or (λ name. bytes_eq name (codes "self")) (last_name path) false

abbrev pub has_generics : Forest → Bool
has_generics segment = is_some (below_first k.GENERIC_ARG_LIST segment)

abbrev pub names_placeholder : List (List ℕ) → Token → Bool
names_placeholder names token = is_ident token.kind && is_stand_in names token.text

-- whether a stand-in is among the tokens of a path, but for the arguments of its last segment. So it stands as the name of a
-- segment, in a type in angle brackets that the path begins with, or in the arguments of a segment in front of the last one.
unfoldable pub holds_stand_in : List (List ℕ) → Forest → Bool
holds_stand_in names path = list_any (names_placeholder names) (tokens_in (without_arguments path))

-- a path resolves as a whole if no segment in front of its last one has generic arguments, and no stand-in is among its tokens,
-- but for the arguments of its last segment
abbrev pub is_whole : List (List ℕ) → Forest → Bool
is_whole names path = not (list_any has_generics (qualifying path)) && not (holds_stand_in names path)

abbrev pub has_to_resolve : List (List ℕ) → Forest → Bool
has_to_resolve names path = not (ends_in_self path) && is_whole names path

-- ** Which of them are used.

abbrev pub is_const_or_type : DefKind → Bool
is_const_or_type kinds.Const = true
is_const_or_type kinds.TypeAlias = true
is_const_or_type _ = false

abbrev pub is_function : DefKind → Bool
is_function kinds.Function = true
is_function _ = false

-- a path of a definition can be used: of any but an associated constant, an associated type, and an associated function that
-- doesn't take `self`
abbrev pub is_usable_def : DefInfo → Bool
is_usable_def info = not (info.assoc && (is_const_or_type info.kind || (is_function info.kind && not info.takes_self)))

abbrev pub is_usable : Meanings → Res → Bool
is_usable m (res.Def d) = is_usable_def (m.info d)
is_usable m _ = true

abbrev pub used : Meanings → Res → Option Res
used m res = if is_usable m res then Some res else None

-- ** The walk.

-- whether one node stands above another one
abbrev pub is_above : Node → Node → Bool
is_above upper node = nat_lt upper.number node.number && nat_lt node.number (upper.number + size_of upper)

abbrev pub is_path : Node → Bool
is_path node = same_kind node.kind k.PATH

abbrev pub used_path : Node → Res → UsedPath
used_path node res = record { node = record { 0 = node.number }; res = res }

abbrev pub refused : Node → Result (List UsedPath) NodeNo
refused node = Err (record { 0 = node.number })

module _ (m : Meanings) (scope : ScopeId) (names : List (List ℕ)) where
  -- whether a node is a path that has to resolve and doesn't
  unfoldable pub is_unresolved : Node → Bool
  is_unresolved node = is_path node && (has_to_resolve names node.children && is_none (resolution m scope node.children))

  -- what a node is used for: what it resolves to, if it is a path that is used
  unfoldable pub use_of : Node → Option Res
  use_of node =
      if is_path node && has_to_resolve names node.children then option_and_then (used m) (resolution m scope node.children)
      else None

  -- nothing below a used path or one that ends in `self` is looked at
  unfoldable pub stops : Node → Bool
  stops node = (is_path node && ends_in_self node.children) || is_some (use_of node)

  abbrev pub is_reached : Syntax → Node → Bool
  is_reached tree node = not (list_any (λ upper. is_above upper node && stops upper) (nodes_of tree))

  abbrev pub reached : Syntax → List Node
  reached tree = filter (is_reached tree) (nodes_of tree)

  abbrev pub used_at : Node → Option UsedPath
  used_at node = option_map (used_path node) (use_of node)

  -- the first path that has to resolve and doesn't; else those that are used, in order
  unfoldable pub used_paths : Syntax → Result (List UsedPath) NodeNo
  used_paths tree = option_map_or refused (find is_unresolved (reached tree)) (Ok (filter_map used_at (reached tree)))

-- a call answers the used paths, which `seen` tells of its value, or the path that doesn't resolve; want of memory says nothing
abbrev pub Answers : {A : Type 0} → (A → List UsedPath) → Result A Unresolved → Result (List UsedPath) NodeNo → Type 0
Answers seen (Ok value) paths = paths ≡ Ok (seen value)
Answers seen (Err (errors.Path node)) paths = paths ≡ Err node
Answers seen (Err errors.Memory) paths = Unit {0}

-- the path that isn't resolved is a node of the tree
abbrev pub HasRefused : Syntax → Unresolved → Type 0
HasRefused tree (errors.Path node) = HasNode tree node.0
HasRefused tree errors.Memory = Unit {0}
