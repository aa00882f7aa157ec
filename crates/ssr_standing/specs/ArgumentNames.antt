-- Arguments that something is put into as an assignment: a macro that formats takes `a = b` for an argument with a name.
use Rattle.std.specs.Prelude.{ℕ, zero, suc, ◌+◌, ◌&&◌, ◌||◌, not, Bool, false, List, is_some, length, slice_get}
use Rattle.std.specs.Option.{option_map_or}
use Rattle.ssr_syntax_kinds.specs.declared.kinds.SyntaxKind.TheVariants as k
use Rattle.ssr_syntax_kinds.specs.Kinds.{same_kind}
use Rattle.ssr_syntax_tree.specs.Syntax.{Syntax, node_count}
use Rattle.ssr_syntax_tree.specs.Places.{Node, Part, token_part, node_part, node_of, parts_of, elements_of}
use Rattle.ssr_base_trees.specs.Origins.{Span}
use Rattle.ssr_standing.specs.Around.{hole_of}

-- one of the first numbers, so many, passes a test
abbrev pub some_below : (ℕ → Bool) → ℕ → Bool
some_below test zero = false
some_below test (suc n) = some_below test n || test n

-- the token `=`
abbrev pub is_equals : Part → Bool
is_equals (token_part t token) = same_kind token.kind k.EQ
is_equals (node_part node) = false

abbrev pub is_equals_at : Node → ℕ → Bool
is_equals_at node i = option_map_or is_equals (slice_get (parts_of node) i) false

abbrev pub is_assignment : Node → Bool
is_assignment node = same_kind node.kind k.BIN_EXPR && some_below (is_equals_at node) (length (elements_of node))

abbrev pub is_in_place : List Span → Syntax → Node → Bool
is_in_place places tree node = is_some (hole_of places tree (node_part node))

-- a node lies in a place, directly in a tuple that doesn't
abbrev pub is_put : List Span → Syntax → Node → Bool
is_put places tree node =
    is_in_place places tree node
    && (same_kind (node_of tree node.parent).kind k.TUPLE_EXPR && not (is_in_place places tree (node_of tree node.parent)))

abbrev pub names_at : List Span → Syntax → ℕ → Bool
names_at places tree n = is_put places tree (node_of tree n) && is_assignment (node_of tree n)

-- In one of the places stands an assignment that is a whole argument.
abbrev pub names_arguments : Syntax → List Span → Bool
names_arguments tree places = some_below (names_at places tree) (1 + node_count tree.children)
