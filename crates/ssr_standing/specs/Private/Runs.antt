-- Private: nodes and tokens that look the same.
use Rattle.std.specs.Prelude.{ℕ, ◌+◌, ◌-◌, ◌≡◌, ◌<◌, List, All, length, map}
use Rattle.ssr_syntax_kinds.specs.declared.kinds.SyntaxKind.{SyntaxKind}
use Rattle.ssr_syntax_tree.specs.Syntax.{Token, token_count}
use Rattle.ssr_syntax_tree.specs.Places.{Node, nodes_in}

-- a token's kind, and how many bytes it has
pub record Mould : Type 0 where
  pub kind : SyntaxKind
  pub bytes : ℕ

abbrev pub mould_of : Token → Mould
mould_of token = record { kind = token.kind; bytes = length token.text }

-- a node's kind, how many tokens stand between a token and its first one, and how many it has
pub record Shape : Type 0 where
  pub kind : SyntaxKind
  pub start : ℕ
  pub tokens : ℕ

abbrev pub shape_of : ℕ → Node → Shape
shape_of first node = record { kind = node.kind; start = node.first - first; tokens = token_count node.children }

-- the nodes below a node
abbrev pub below_of : Node → List Node
below_of node = nodes_in node.number (1 + node.number) node.first node.children

-- it has tokens
abbrev pub IsFilled : Node → Type 0
IsFilled node = 0 < token_count node.children

-- below two nodes stand nodes of the same shapes, with tokens
pub record HaveSameNodes (a b : Node) : Type 0 where
  pub shapes : map (shape_of a.first) (below_of a) ≡ map (shape_of b.first) (below_of b)
  pub filled : All IsFilled (below_of a)
