-- What is written of a forest, in lists.
use Rattle.std.specs.Prelude.{ℕ, min, List, [], ◌∷◌, ◌++◌, length}
use Rattle.ssr_syntax_kinds.specs.declared.kinds.SyntaxKind.{SyntaxKind}
use Rattle.ssr_syntax_tree.specs.declared.rows.NodeRow.{NodeRow}
use Rattle.ssr_syntax_forms.specs.Places.{Place, behind_token}
use Rattle.ssr_syntax_forms.specs.Trees.{Forest, done, leaf, tree, nodes}

-- a token of the tree: its kind, and how many solid tokens it is joined from
pub record Taken : Type 0 where
  pub kind : SyntaxKind
  pub size : ℕ

-- the tokens of a forest in order
abbrev pub leaves : Forest → List Taken
leaves done = []
leaves (leaf kind tokens x) = record { kind = kind; size = length tokens } ∷ leaves x
leaves (tree kind kids x) = leaves kids ++ leaves x

-- where the parser is behind these tokens of the tree
abbrev pub after : List Taken → Place → Place
after [] p = p
after (u ∷ us) p = after us (behind_token u.size p)

-- a node of these tokens, of which the parser stands in front: where it begins and ends
abbrev pub first_in : List Taken → Place → ℕ
first_in us p = min p.next (after us p).end

abbrev pub past_in : List Taken → Place → ℕ
past_in us p = (after us p).end

-- the nodes of a forest, each behind those below it
abbrev pub rows : Forest → Place → List NodeRow
rows done p = []
rows (leaf kind tokens x) p = rows x (behind_token (length tokens) p)
rows (tree kind kids x) p =
    rows kids p
    ++ record { kind = kind; parent = 0; first = first_in (leaves kids) p; past = past_in (leaves kids) p; below = nodes kids }
    ∷ rows x (after (leaves kids) p)
