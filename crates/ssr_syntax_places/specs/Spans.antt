-- Which bytes of a text are those of a node, and where the same place is in a short text and in a long one.
use Rattle.std.specs.Prelude.{◌≡◌, ◌⊎◌, ℕ, ◌+◌, ◌<◌, ◌==◌, ◌&&◌, Bool, true, List, [], ◌∷◌, length, reverse}
use Rattle.std.specs.List.{list_any}
use Rattle.ssr_syntax_tree.specs.Syntax.{Syntax}
use Rattle.ssr_syntax_tree.specs.Places.{nodes_of, start_of, end_of}
use Rattle.ssr_syntax_rows.specs.Solid.{begins_solid}
use Rattle.ssr_syntax_places.specs.Woven.{Part}

-- a node has exactly the bytes from one place to another of a text, of which the tree was read without the first `front` bytes
unfoldable pub has_node_at : Syntax → ℕ → ℕ → ℕ → Bool
has_node_at tree front from to = list_any (λ node. front + start_of tree node == from && front + end_of tree node == to) (nodes_of tree)

-- so many bytes from the beginning of a part an inside begins
abbrev pub inside_at : Part → ℕ
inside_at p = length p.front + 1

-- So many bytes from the beginning of a short text of parts, and so many from that of a long one, is the same place: it is told in
-- the first part, or lies behind its inside in both texts and is the same place there.
abbrev pub IsSamePlace : (Part → Part → ℕ → ℕ → Type 0) → List Part → List Part → ℕ → ℕ → Type 0
IsSamePlace Here [] [] n m = n ≡ m
IsSamePlace Here [] (q ∷ qs) n m = ⊥
IsSamePlace Here (p ∷ ps) [] n m = ⊥
IsSamePlace Here (p ∷ ps) (q ∷ qs) n m =
    Here p q n m
    ⊎ ((i : ℕ) × (j : ℕ)
    × (n ≡ (inside_at p + length p.inside) + i) × (m ≡ (inside_at q + length q.inside) + j)
    × (0 < i) × (0 < j) × IsSamePlace Here ps qs i j)

-- in front of the inside, or where the inside begins, if it begins with neither white space nor a comment
abbrev pub BeginsHere : Part → Part → ℕ → ℕ → Type 0
BeginsHere p q n m = ((n ≡ m) × (n < inside_at p)) ⊎ ((n ≡ inside_at p) × (m ≡ inside_at q) × (begins_solid q.within ≡ true))

-- in front of the inside, or where the inside ends, if it ends with neither white space nor a comment
abbrev pub EndsHere : Part → Part → ℕ → ℕ → Type 0
EndsHere p q n m =
    ((n ≡ m) × (n < inside_at p))
    ⊎ ((n ≡ inside_at p + length p.inside) × (m ≡ inside_at q + length q.inside) × (begins_solid (reverse q.within) ≡ true))

-- Bytes of a short text and bytes of a long one: they begin at the same place, not within an inside, and so they end.
pub record AreSameBytes (short long : List Part) (from to long_from long_to : ℕ) : Type 0 where
  pub some : from < to
  pub long_some : long_from < long_to
  pub begin : IsSamePlace BeginsHere short long from long_from
  pub end : IsSamePlace EndsHere short long to long_to
