-- The parts that a `Tree` is made of, held against the plain tree that they stand for.
use Rattle.std.specs.Prelude.{ℕ, ◌+◌, ◌^◌, ◌≡◌, ◌<◌, List, [], ◌∷◌, All, length, map}
use Rattle.std.specs.Str.{IsUtf8}
use Rattle.ssr_syntax_tree.specs.declared.rows.NodeRow.{NodeRow}
use Rattle.ssr_syntax_kinds.specs.declared.token_rows.TokenRow.{TokenRow}
use Rattle.ssr_syntax_tree.specs.Places.{Node, nodes_of}
use Rattle.ssr_syntax_tree.specs.Syntax.{Token, Syntax, token_count, node_count, tokens_of, source_of}

-- the row of a node
abbrev pub node_row : Node → NodeRow
node_row node =
    record {
      kind = node.kind;
      parent = node.parent;
      first = node.first;
      past = node.first + token_count node.children;
      below = node_count node.children;
    }

-- the rows of tokens, of which the first one begins at the byte `start`
abbrev pub token_rows : ℕ → List Token → List TokenRow
token_rows start [] = []
token_rows start (token ∷ next) = record { kind = token.kind; start = start } ∷ token_rows (start + length token.text) next

-- a source and the rows of its tokens and nodes are the parts of a plain tree: the tree spells the source, each
-- of its tokens is a text, the rows are those of its tokens and of its nodes in order, and 32 bits count the
-- bytes and the nodes
pub record AreParts (source : List ℕ) (tokens : List TokenRow) (nodes : List NodeRow) (syntax : Syntax) : Type 0 where
  pub spells : source ≡ source_of syntax
  pub texts : All (λ token. IsUtf8 token.text) (tokens_of syntax)
  pub tokens_are : tokens ≡ token_rows 0 (tokens_of syntax)
  pub nodes_are : nodes ≡ map node_row (nodes_of syntax)
  pub short : length source < 2 ^ 32
  pub few : length nodes < 2 ^ 32
