-- A tree without white space and comments as a list of marks: each node, and behind it its children.
use Rattle.std.specs.Prelude.{List, [], ◌∷◌, ◌++◌, flat_map, if◌then◌else◌}
use Rattle.ssr_syntax_kinds.specs.declared.kinds.SyntaxKind.{SyntaxKind}
use Rattle.ssr_syntax_kinds.specs.Kinds.{is_trivia}
use Rattle.ssr_syntax_tree.specs.Syntax.{Token, Forest, nothing, leaf, branch, Syntax}
use Rattle.ssr_syntax_tree.specs.Places.{Node, Part, token_part, node_part, parts_of}
use Rattle.ssr_swaps.specs.declared.marks.Mark.{Mark}
use Rattle.ssr_swaps.specs.declared.marks.Mark.TheVariants as stored

-- a node, whose children come next; of these a token, or a node whose own mark comes later
pub data PlainMark : Type 0 where
  node_mark : SyntaxKind → PlainMark
  token_mark : Token → PlainMark
  child_mark : PlainMark

-- the mark that a stored one stands for
abbrev pub shown : Mark → PlainMark
shown (stored.Node kind) = node_mark kind
shown (stored.Token kind text) = token_mark (record { kind = kind; text = text.now })
shown stored.Child = child_mark

-- the marks of siblings
abbrev pub siblings : Forest → List PlainMark
siblings nothing = []
siblings (leaf token next) = if is_trivia token.kind then siblings next else token_mark token ∷ siblings next
siblings (branch kind below next) = child_mark ∷ siblings next

-- the marks of the nodes at and below siblings, in preorder
abbrev pub below : Forest → List PlainMark
below nothing = []
below (leaf token next) = below next
below (branch kind children next) = node_mark kind ∷ (siblings children ++ (below children ++ below next))

-- the marks of a tree
abbrev pub marks_of : Syntax → List PlainMark
marks_of tree = node_mark tree.kind ∷ (siblings tree.children ++ below tree.children)

-- the mark of a child, which white space and comments haven't
abbrev pub part_marks : Part → List PlainMark
part_marks (token_part t token) = if is_trivia token.kind then [] else token_mark token ∷ []
part_marks (node_part node) = child_mark ∷ []

-- the marks of a node and its children
abbrev pub node_marks : Node → List PlainMark
node_marks node = node_mark node.kind ∷ flat_map part_marks (parts_of node)
