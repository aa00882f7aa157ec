-- A plain syntax tree: what contracts see of a `Tree`. Trivia are leaves like the other tokens.
use Rattle.std.specs.Prelude.{ℕ, ◌+◌, Bool, false, ◌&&◌, bytes_eq, List, [], ◌∷◌, ◌++◌, max}
use Rattle.std.specs.List.{flat_map}
use Rattle.ssr_syntax_kinds.specs.Kinds.{same_kind, is_trivia}
use Rattle.ssr_syntax_kinds.specs.declared.kinds.SyntaxKind.{SyntaxKind}

-- a token of a tree: its kind and its bytes
pub record Token : Type 0 where
  pub kind : SyntaxKind
  pub text : List ℕ

-- whether two tokens have one kind and one text
abbrev pub same_token : Token → Token → Bool
same_token a b = same_kind a.kind b.kind && bytes_eq a.text b.text

-- siblings in order: the first one, with what is below it, and those after it
pub data Forest : Type 0 where
  nothing : Forest
  leaf : Token → Forest → Forest
  branch : SyntaxKind → Forest → Forest → Forest

-- a whole tree: its root's kind, and what is below the root
pub record Syntax : Type 0 where
  pub kind : SyntaxKind
  pub children : Forest

-- how many tokens, and how many nodes, there are
abbrev pub token_count : Forest → ℕ
token_count nothing = 0
token_count (leaf token next) = 1 + token_count next
token_count (branch kind below next) = token_count below + token_count next

abbrev pub node_count : Forest → ℕ
node_count nothing = 0
node_count (leaf token next) = node_count next
node_count (branch kind below next) = 1 + (node_count below + node_count next)

-- the tokens in order
abbrev pub tokens_in : Forest → List Token
tokens_in nothing = []
tokens_in (leaf token next) = token ∷ tokens_in next
tokens_in (branch kind below next) = tokens_in below ++ tokens_in next

abbrev pub tokens_of : Syntax → List Token
tokens_of syntax = tokens_in syntax.children

-- the texts of tokens, one after the other
abbrev pub spelled : List Token → List ℕ
spelled tokens = flat_map (λ token. token.text) tokens

-- the text that a tree spells
abbrev pub source_of : Syntax → List ℕ
source_of syntax = spelled (tokens_of syntax)

-- how many nodes stand above one another, the highest number
abbrev pub height : Forest → ℕ
height nothing = 0
height (leaf token next) = height next
height (branch kind below next) = max (1 + height below) (height next)

-- the depth of the deepest node, the root's being 0
abbrev pub depth_of : Syntax → ℕ
depth_of syntax = height syntax.children

-- how deep a tree may be that is read of a text
abbrev pub most_deep : ℕ
most_deep = 1024

-- whether the first of the tokens is white space or a comment
abbrev pub begins_with_trivia : List Token → Bool
begins_with_trivia [] = false
begins_with_trivia (t ∷ ts) = is_trivia t.kind
