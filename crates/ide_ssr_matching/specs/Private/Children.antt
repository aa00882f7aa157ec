-- Private: the children of a node that are left while they are gone over.
use Rattle.std.specs.Prelude.{ℕ, ◌≤◌, Bool, false, if◌then◌else◌, List, [], ◌∷◌, ◌++◌, All, length, option_to_list}
use Rattle.ssr_syntax_kinds.specs.declared.kinds.SyntaxKind.{SyntaxKind}
use Rattle.ssr_syntax_kinds.specs.Kinds.{same_kind}
use Rattle.ssr_syntax_tree.specs.declared.number.Element.{Element}
use Rattle.ssr_syntax_tree.specs.declared.number.Element.TheVariants as element
use Rattle.ssr_syntax_tree.specs.Syntax.{Syntax}
use Rattle.ssr_syntax_tree.specs.Places.{Part, token_part, node_part, node_of, HasNode, HasToken, HasElement, IsAbove}
use Rattle.ide_ssr_matching.specs.declared.children.Siblings.{Siblings}
use Rattle.ide_ssr_token_trees.specs.Elements.{is_trivia_part}

-- whether a sibling is a token of a kind
abbrev pub has_kind : SyntaxKind → Part → Bool
has_kind kind (token_part t token) = same_kind token.kind kind
has_kind kind (node_part node) = false

-- siblings from the first one on that is no trivia
abbrev pub solid : List Part → List Part
solid [] = []
solid (part ∷ rest) = if is_trivia_part part then solid rest else part ∷ rest

abbrev pub siblings_left : Siblings → List Element
siblings_left siblings = option_to_list siblings.held ++ siblings.left

-- elements that stand below a node
abbrev pub IsElementBelow : Syntax → ℕ → Element → Type 0
IsElementBelow code n (element.Node m) = HasNode code m.0 × IsAbove (node_of code n) m.0
IsElementBelow code n (element.Token t) = HasToken code t.0

-- Siblings that are left are among those that were left before: what is true of each of those is true of each of these.
pub record AreKept (before left : List Element) : Type 0 where
  pub has : (code : Syntax) → All (HasElement code) before → All (HasElement code) left
  pub below : (code : Syntax) (n : ℕ) → All (IsElementBelow code n) before → All (IsElementBelow code n) left
  pub fewer : length left ≤ length before
