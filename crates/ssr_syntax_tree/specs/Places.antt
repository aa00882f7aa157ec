-- Places in a plain tree: nodes are numbered in preorder from 0, the root, and tokens from the left.
use Rattle.std.specs.Prelude.{ℕ, ◌+◌, ◌≡◌, ◌<◌, ◌≤◌, List, [], ◌∷◌, ◌++◌, length, map, take, unwrap_or, slice_get, slice_index}
use Rattle.ssr_syntax_kinds.specs.declared.kinds.SyntaxKind.{SyntaxKind}
use Rattle.ssr_syntax_kinds.specs.declared.kinds.SyntaxKind.TheVariants as k
use Rattle.ssr_syntax_kinds.specs.declared.range.TextRange.{TextRange}
use Rattle.ssr_syntax_tree.specs.declared.number.Element.{Element}
use Rattle.ssr_syntax_tree.specs.declared.number.Element.TheVariants as element
use Rattle.ssr_syntax_tree.specs.Syntax.{Token, Forest, nothing, leaf, branch, Syntax, token_count, node_count, tokens_in, tokens_of, spelled}

-- a node in its tree: its number, its parent's (the root has its own), the number of the first token at or
-- after its beginning, its kind, and what is below it
pub record Node : Type 0 where
  pub number : ℕ
  pub parent : ℕ
  pub first : ℕ
  pub kind : SyntaxKind
  pub children : Forest

-- a child of a node: a token with its number, or a node
pub data Part : Type 0 where
  token_part : ℕ → Token → Part
  node_part : Node → Part

-- the nodes of siblings below `parent`, in preorder, where the next node has the number m and the next token t
abbrev pub nodes_in : ℕ → ℕ → ℕ → Forest → List Node
nodes_in parent m t nothing = []
nodes_in parent m t (leaf token next) = nodes_in parent m (1 + t) next
nodes_in parent m t (branch kind below next) =
    record { number = m; parent = parent; first = t; kind = kind; children = below }
    ∷ (nodes_in m (1 + m) t below ++ nodes_in parent (1 + m + node_count below) (t + token_count below) next)

-- the siblings themselves
abbrev pub parts_in : ℕ → ℕ → ℕ → Forest → List Part
parts_in parent m t nothing = []
parts_in parent m t (leaf token next) = token_part t token ∷ parts_in parent m (1 + t) next
parts_in parent m t (branch kind below next) =
    node_part (record { number = m; parent = parent; first = t; kind = kind; children = below })
    ∷ parts_in parent (1 + m + node_count below) (t + token_count below) next

abbrev pub root_of : Syntax → Node
root_of syntax = record { number = 0; parent = 0; first = 0; kind = syntax.kind; children = syntax.children }

-- all nodes, in preorder
abbrev pub nodes_of : Syntax → List Node
nodes_of syntax = root_of syntax ∷ nodes_in 0 1 0 syntax.children

-- the node of a number; the root where there is none
unfoldable pub node_of : Syntax → ℕ → Node
node_of syntax n = unwrap_or (slice_get (nodes_of syntax) n) (root_of syntax)

-- the children of a node
abbrev pub parts_of : Node → List Part
parts_of node = parts_in node.number (1 + node.number) node.first node.children

-- the nodes at and below a node: the next `size_of node` numbers from its own
abbrev pub size_of : Node → ℕ
size_of node = 1 + node_count node.children

-- whether a node stands above another one: below it are the numbers after its own
abbrev pub IsAbove : Node → ℕ → Type 0
IsAbove node n = (node.number < n) × (n < node.number + size_of node)

abbrev pub text_of : Node → List ℕ
text_of node = spelled (tokens_in node.children)

-- where a token begins, in bytes; at the number of tokens, the length of the source
abbrev pub offset_of : Syntax → ℕ → ℕ
offset_of syntax t = length (spelled (take t (tokens_of syntax)))

-- the range of a node in bytes
abbrev pub start_of : Syntax → Node → ℕ
start_of syntax node = offset_of syntax node.first

abbrev pub end_of : Syntax → Node → ℕ
end_of syntax node = offset_of syntax (node.first + token_count node.children)

abbrev pub HasNode : Syntax → ℕ → Type 0
HasNode syntax n = n < 1 + node_count syntax.children

abbrev pub HasToken : Syntax → ℕ → Type 0
HasToken syntax t = t < token_count syntax.children

-- the token of a number; an empty one where there is none
unfoldable pub token_of : Syntax → ℕ → Token
token_of syntax t = unwrap_or (slice_get (tokens_of syntax) t) (record { kind = k.WHITESPACE; text = [] })

-- a part and the element that names it
abbrev pub element_of : Part → Element
element_of (token_part t token) = element.Token (record { 0 = t })
element_of (node_part node) = element.Node (record { 0 = node.number })

abbrev pub part_of : Syntax → Element → Part
part_of syntax (element.Node n) = node_part (node_of syntax n.0)
part_of syntax (element.Token t) = token_part t.0 (token_of syntax t.0)

abbrev pub HasElement : Syntax → Element → Type 0
HasElement syntax (element.Node n) = HasNode syntax n.0
HasElement syntax (element.Token t) = HasToken syntax t.0

-- the elements that name the children of a node
abbrev pub elements_of : Node → List Element
elements_of node = map element_of (parts_of node)

-- whether a token's text holds the byte at an offset
abbrev pub HoldsByte : Syntax → ℕ → ℕ → Type 0
HoldsByte syntax t offset = (offset_of syntax t ≤ offset) × (offset < offset_of syntax (1 + t))

-- how many nodes stand above each node, in preorder, where as many as `depth` stand above the siblings
abbrev pub depths_in : ℕ → Forest → List ℕ
depths_in depth nothing = []
depths_in depth (leaf token next) = depths_in depth next
depths_in depth (branch kind below next) = depth ∷ (depths_in (1 + depth) below ++ depths_in depth next)

abbrev pub depths_of : Syntax → List ℕ
depths_of syntax = 0 ∷ depths_in 1 syntax.children

unfoldable pub depth_at : Syntax → ℕ → ℕ
depth_at syntax n = slice_index (depths_of syntax) n

-- whether the range of a node holds a range
abbrev pub HoldsRange : Syntax → ℕ → TextRange → Type 0
HoldsRange syntax n range =
    (start_of syntax (node_of syntax n) ≤ range.start) × (range.end ≤ end_of syntax (node_of syntax n))

-- of the nodes that hold a range, the deepest one, and of several as deep the first in preorder
pub record IsCovering (syntax : Syntax) (range : TextRange) (n : ℕ) : Type 0 where
  pub has : HasNode syntax n
  pub holds : HoldsRange syntax n range
  pub deepest : (m : ℕ) → HasNode syntax m → HoldsRange syntax m range → depth_at syntax m ≤ depth_at syntax n
  pub first : (m : ℕ) → HasNode syntax m → HoldsRange syntax m range → depth_at syntax m ≡ depth_at syntax n → n ≤ m
