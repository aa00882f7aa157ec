-- The plain tree that a text is read to.
use Rattle.std.specs.Prelude.{ℕ, ◌+◌, max, List, [], ◌++◌}
use Rattle.ssr_syntax_kinds.specs.declared.kinds.SyntaxKind.{SyntaxKind}
use Rattle.ssr_syntax_forms.specs.declared.tokens.Token.{Token}

-- Some trees side by side. The last argument of `leaf` and `tree` is what stands beside them to the right.
pub data Forest : Type 0 where
  done : Forest
  -- one token of the grammar: its kind, and the solid tokens that it is joined from
  leaf : SyntaxKind → List Token → Forest → Forest
  -- a node: its kind and its children
  tree : SyntaxKind → Forest → Forest → Forest

-- the one to the left of the other
abbrev pub join : Forest → Forest → Forest
join done y = y
join (leaf kind tokens x) y = leaf kind tokens (join x y)
join (tree kind kids x) y = tree kind kids (join x y)

-- its tokens in order
abbrev pub spell : Forest → List Token
spell done = []
spell (leaf kind tokens x) = tokens ++ spell x
spell (tree kind kids x) = spell kids ++ spell x

-- how many nodes it has
abbrev pub nodes : Forest → ℕ
nodes done = 0
nodes (leaf kind tokens x) = nodes x
nodes (tree kind kids x) = nodes kids + (1 + nodes x)

-- how many nodes stand above one another, the highest number
abbrev pub height : Forest → ℕ
height done = 0
height (leaf kind tokens x) = height x
height (tree kind kids x) = max (1 + height kids) (height x)
