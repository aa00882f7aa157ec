-- The elements of a token tree: its children, the brackets first and last among them.
use Rattle.std.specs.Prelude.{ℕ, ◌+◌, ◌==◌, ◌&&◌, Bool, false, true, not, List, [], ◌∷◌, filter, Option, Some, None, bytes_eq, slice_get, if◌then◌else◌}
use Rattle.std.specs.Option.{option_map}
use Rattle.ssr_syntax_kinds.specs.declared.kinds.SyntaxKind.{SyntaxKind}
use Rattle.ssr_syntax_kinds.specs.declared.kinds.SyntaxKind.TheVariants as k
use Rattle.ssr_syntax_kinds.specs.Kinds.{same_kind, is_trivia}
use Rattle.ssr_syntax_tree.specs.Syntax.{tokens_in, token_count}
use Rattle.ssr_syntax_tree.specs.Places.{Part, token_part, node_part}
use Rattle.ssr_base_trees.specs.declared.ids.TokenRun.{TokenRun}

-- a node is no trivia
abbrev pub is_trivia_part : Part → Bool
is_trivia_part (token_part t token) = is_trivia token.kind
is_trivia_part (node_part node) = false

abbrev pub without_trivia : List Part → List Part
without_trivia parts = filter (λ part. not (is_trivia_part part)) parts

-- ** Commas before a closing bracket.

unfoldable pub is_closing : SyntaxKind → Bool
is_closing k.R_PAREN = true
is_closing k.R_CURLY = true
is_closing k.R_BRACK = true
is_closing _ = false

-- whether an element is a closing bracket
abbrev pub closes_part : Part → Bool
closes_part (token_part t token) = is_closing token.kind
closes_part (node_part node) = false

-- whether the first of these elements that is no trivia is a closing bracket
abbrev pub closes : List Part → Bool
closes [] = false
closes (token_part t token ∷ rest) = if is_trivia token.kind then closes rest else is_closing token.kind
closes (node_part node ∷ rest) = false

-- the number of the comma directly, trivia aside, before the closing bracket, if one stands there
abbrev pub last_comma : List Part → Option ℕ
last_comma [] = None
last_comma (token_part t token ∷ rest) = if same_kind token.kind k.COMMA && closes rest then Some t else last_comma rest
last_comma (node_part node ∷ rest) = last_comma rest

-- whether a token has the number, if there is one
abbrev pub is_number : Option ℕ → ℕ → Bool
is_number (Some n) t = n == t
is_number None t = false

-- ** Texts.

-- the text of an element's first token
abbrev pub first_text : Part → Option (List ℕ)
first_text (token_part t token) = Some token.text
first_text (node_part node) = option_map (λ token. token.text) (slice_get (tokens_in node.children) 0)

-- the text of the first token of the first of these elements, if there is one
abbrev pub next_text : List Part → Option (List ℕ)
next_text [] = None
next_text (part ∷ rest) = first_text part

abbrev pub same_text : Option (List ℕ) → Option (List ℕ) → Bool
same_text (Some a) (Some b) = bytes_eq a b
same_text (Some a) None = false
same_text None b = false

-- the elements up to the first whose first token has the text, which is not among them
abbrev pub up_to : Option (List ℕ) → List Part → List Part
up_to text [] = []
up_to text (part ∷ rest) = if same_text (first_text part) text then [] else part ∷ up_to text rest

-- the elements from the first on whose first token has the text
abbrev pub from : Option (List ℕ) → List Part → List Part
from text [] = []
from text (part ∷ rest) = if same_text (first_text part) text then part ∷ rest else from text rest

-- ** Tokens.

abbrev pub first_token : Part → ℕ
first_token (token_part t token) = t
first_token (node_part node) = node.first

abbrev pub tokens_at : Part → ℕ
tokens_at (token_part t token) = 1
tokens_at (node_part node) = token_count node.children

abbrev pub tokens_among : List Part → ℕ
tokens_among [] = 0
tokens_among (part ∷ rest) = tokens_at part + tokens_among rest

-- the tokens of an element and of those behind it
abbrev pub run_over : Part → List Part → TokenRun
run_over part more = record { first = first_token part; count = tokens_among (part ∷ more) }
