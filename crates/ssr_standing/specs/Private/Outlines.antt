-- Private: what is left of the outline of a tree.
use Rattle.std.specs.Prelude.{ℕ, ◌+◌, ◌≡◌, ◌<◌, List, ◌++◌, None, drop, flat_map, length, map}
use Rattle.ssr_syntax_tree.specs.Syntax.{Syntax}
use Rattle.ssr_syntax_tree.specs.Places.{HasNode, Node, node_of, node_part, nodes_of, parts_of, size_of}
use Rattle.ssr_base_trees.specs.Origins.{Span, span_of}
use Rattle.ssr_standing.specs.declared.outlines.Outline.{Outline}
use Rattle.ssr_standing.specs.Around.{Mark, hole_of, holds_tokens, marks_behind, outlined}

-- the marks of the nodes from one on
abbrev pub left_from : List Span → Syntax → ℕ → List Mark
left_from places tree n = flat_map (outlined places tree) (drop n (nodes_of tree))

abbrev pub places_of : Outline → List Span
places_of o = map span_of o.passing.places.now

abbrev pub left_of : Outline → List Mark
left_of o = left_from (places_of o) o.tree.now o.node

-- those behind the next node, and those behind all that is below it
abbrev pub left_behind : Outline → List Mark
left_behind o = left_from (places_of o) o.tree.now (1 + o.node)

abbrev pub left_past : Outline → List Mark
left_past o = left_from (places_of o) o.tree.now (o.node + size_of (node_of o.tree.now o.node))

-- the marks of a node's children
abbrev pub own_marks : List Span → Syntax → Node → List Mark
own_marks places tree node = marks_behind places tree (holds_tokens node.kind) None (parts_of node)

-- the next node is there, and lies in no place
pub record IsAtKept (o : Outline) : Type 0 where
  pub has : HasNode o.tree.now o.node
  pub kept : hole_of (places_of o) o.tree.now (node_part (node_of o.tree.now o.node)) ≡ None

-- two lists begin with the same, and this is what comes behind it
pub record BeginAlike (one two one_behind two_behind : List Mark) : Type 0 where
  pub front : List Mark
  pub some : 0 < length front
  pub one_is : one ≡ front ++ one_behind
  pub two_is : two ≡ front ++ two_behind
