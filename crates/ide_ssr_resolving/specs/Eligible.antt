-- Eligible paths of a pattern: used paths whose usages can lead to its matches. They leave out builtin types, whose usages
-- no provider has to tell in full, and paths in the first argument of a qualified call, which a method call has in front.
use Rattle.std.specs.Prelude.{ℕ, ◌+◌, ◌==◌, Bool, true, false, not, nat_le, nat_lt, ◌&&◌, List, Option}
use Rattle.std.specs.List.{filter, list_any}
use Rattle.std.specs.Option.{option_map, option_map_or}
use Rattle.ssr_syntax_kinds.specs.declared.kinds.SyntaxKind.TheVariants as k
use Rattle.ssr_syntax_tree.specs.Places.{Node, node_of, nodes_of, size_of}
use Rattle.ssr_syntax_tree.specs.Syntax.{Syntax}
use Rattle.ssr_base_trees.specs.declared.semantics.DefKind.{DefKind}
use Rattle.ssr_base_trees.specs.declared.semantics.DefKind.TheVariants as kinds
use Rattle.ssr_base_trees.specs.declared.semantics.Res.{Res}
use Rattle.ssr_base_trees.specs.declared.semantics.Res.TheVariants as res
use Rattle.ssr_base_trees.specs.Meanings.{Meanings}
use Rattle.ide_ssr_resolved_rule.specs.declared.qualified_calls.QualifiedCall.{QualifiedCall}
use Rattle.ide_ssr_resolved_rule.specs.declared.used_paths.UsedPath.{UsedPath}
use Rattle.ide_ssr_resolving.specs.QualifiedCalls.{first_in}

-- ** Builtin types.

abbrev pub is_builtin_kind : DefKind → Bool
is_builtin_kind kinds.BuiltinType = true
is_builtin_kind _ = false

abbrev pub is_builtin_type : Meanings → Res → Bool
is_builtin_type m (res.Def d) = is_builtin_kind (m.info d).kind
is_builtin_type m _ = false

-- ** First arguments.

-- what a node is the first argument of: the first node among those in a list of arguments is that of the call with this list
unfoldable pub first_argument_of : Syntax → ℕ → Option ℕ
first_argument_of tree n = option_map (λ arguments. (node_of tree arguments).parent) (first_in tree k.ARG_LIST n)

-- whether a node is that of one of the calls
abbrev pub is_call : List QualifiedCall → ℕ → Bool
is_call calls n = list_any (λ call. call.node.0 == n) calls

abbrev pub is_first_argument : Syntax → List QualifiedCall → ℕ → Bool
is_first_argument tree calls n = option_map_or (is_call calls) (first_argument_of tree n) false

-- whether a node is the one of a number or stands above it
abbrev pub holds : Node → ℕ → Bool
holds node n = nat_le node.number n && nat_lt n (node.number + size_of node)

-- whether a node stands in the first argument of one of the calls, or is it
unfoldable pub is_in_first_argument : Syntax → List QualifiedCall → ℕ → Bool
is_in_first_argument tree calls n = list_any (λ node. holds node n && is_first_argument tree calls node.number) (nodes_of tree)

-- ** Eligible paths.

module _ (m : Meanings) (tree : Syntax) (calls : List QualifiedCall) where
  abbrev pub is_eligible : UsedPath → Bool
  is_eligible path = not (is_builtin_type m path.res) && not (is_in_first_argument tree calls path.node.0)

  -- the eligible ones of all used paths, in their order
  abbrev pub eligible_paths_of : List UsedPath → List UsedPath
  eligible_paths_of paths = filter is_eligible paths
