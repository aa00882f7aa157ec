-- Private: the rows of a tree's nodes from the parser's rows, read from the right: a node is open until a row comes that isn't below it.
-- Open nodes are told from the innermost one on; a row comes before `place` if it isn't below those that begin there.
use Rattle.std.specs.Prelude.{ℕ, ◌+◌, ◌-◌, ◌<◌, ◌≤◌, max, nat_le, nat_lt, Bool, false, ◌||◌, if◌then◌else◌, List, [], ◌∷◌, ◌++◌, length, map, reverse, ◌≡◌, Result}
use Rattle.ssr_syntax_tree.specs.declared.rows.NodeRow.{NodeRow}
use Rattle.ssr_syntax_rows.specs.declared.preorder.Open.{Open}
use Rattle.ssr_syntax_forms.specs.declared.fault.Fault.{Fault}
use Rattle.ssr_syntax_rows.specs.Preorder.{OkUnlessDeep}
use Rattle.ssr_syntax_rows.specs.Private.Turning.{TurningRows}
use Rattle.ssr_syntax_tree.specs.Syntax.{most_deep}

-- the nodes that stay open when those that begin at `place` or behind it are closed
abbrev pub still_open : ℕ → List Open → List Open
still_open place [] = []
still_open place (inner ∷ above) = if nat_le place inner.start then still_open place above else inner ∷ above

-- the nodes that begin at `place` or behind it, the innermost one first: they are closed
abbrev pub closed : ℕ → List Open → List NodeRow
closed place [] = []
closed place (inner ∷ above) = if nat_le place inner.start then inner.node ∷ closed place above else []

abbrev pub number_of : List Open → ℕ
number_of [] = 0
number_of (inner ∷ above) = inner.number

abbrev pub first_of : List Open → ℕ
first_of [] = 0
first_of (inner ∷ above) = inner.node.first

-- the node of a row that has so many rows to its left
abbrev pub opened : NodeRow → ℕ → List Open → Open
opened row place above =
    record {
      start = place - row.below;
      number = (place - row.below) + length above;
      node = record {
        kind = row.kind;
        parent = number_of above;
        first = max row.first (first_of above);
        past = max row.past (first_of above);
        below = row.below;
      };
    }

-- the nodes' rows, the last one first
abbrev pub from_right : List Open → List NodeRow → List NodeRow
from_right above [] = map (λ inner. inner.node) above
from_right above (row ∷ rows) =
    closed (1 + length rows) above
    ++ from_right (opened row (length rows) (still_open (1 + length rows) above) ∷ still_open (1 + length rows) above) rows

-- a node has more than so many others above it
abbrev pub is_deeper : ℕ → List Open → List NodeRow → Bool
is_deeper limit above [] = false
is_deeper limit above (row ∷ rows) =
    nat_lt limit (length (still_open (1 + length rows) above))
    || is_deeper limit (opened row (length rows) (still_open (1 + length rows) above) ∷ still_open (1 + length rows) above) rows

-- ** What the loops do. A list of open nodes has the innermost one last.

abbrev pub IsClosed : ℕ → List Open → List Open → List NodeRow → List NodeRow → Type 0
IsClosed place old new written nodes =
    (reverse new ≡ still_open place (reverse old)) × (nodes ≡ written ++ closed place (reverse old))

-- what is written, with what the rows in front of this one give, and whether those are too deep: as with this one
abbrev pub IsOpened : {R : Type 0} → NodeRow → ℕ → List Open → List Open → List NodeRow → List NodeRow → Result R Fault → Type 0
IsOpened row place old new written nodes result =
    OkUnlessDeep (nat_lt most_deep (length (still_open (1 + place) (reverse old))))
    (λ r. (front : List NodeRow) → length front ≡ place
    → (nodes ++ from_right (reverse new) front ≡ written ++ from_right (reverse old) (row ∷ front))
    × (is_deeper most_deep (reverse new) front ≡ is_deeper most_deep (reverse old) (row ∷ front)))
    result

abbrev pub IsFromRight : List NodeRow → List Open → List NodeRow → Result TurningRows Fault → Type 0
IsFromRight rows above written result =
    OkUnlessDeep (is_deeper most_deep (reverse above) (reverse rows))
    (λ t. t.turned ≡ written ++ from_right (reverse above) (reverse rows)) result

-- so many places are enough for the nodes that may be open at once: there are no more of these than rows that aren't turned, and than levels
abbrev pub AreEnough : ℕ → TurningRows → Type 0
AreEnough places rows = (n : ℕ) → n ≤ most_deep → n < length rows.unread + rows.room → n < places
