-- Which matches touch the reach of a part that belongs to the token beside it.
use Rattle.std.specs.Prelude.{ℕ, ◌≡◌, ◌+◌, ◌<◌, ◌≤◌, ◌⊎◌, ◌↔◌, IsTrue}
use Rattle.ssr_base_trees.specs.Changes.{Change}
use Rattle.ssr_base_trees.specs.Origins.{Span}
use Rattle.ssr_set_aside.specs.Sparing.{touches}

-- a match and a part share a byte
abbrev pub Holds : Change → Change → Type 0
Holds m part = (m.start < part.end) × (part.start < m.end)

-- the reach of a part that belongs to what begins with a token behind it: up to and with the first byte of that token
abbrev pub IsAhead : Change → ℕ → Span → Type 0
IsAhead part next reach = (part.end ≤ next) × (reach.start ≡ part.start) × (reach.end ≡ next + 1)

-- the reach of a part that belongs to what ends with a token in front of it: from the last byte of that token
abbrev pub IsBehind : Change → ℕ → Span → Type 0
IsBehind part last reach = (last ≤ part.start) × (reach.start + 1 ≡ last) × (reach.end ≡ part.end)

-- A match that doesn't begin between the part and the token behind it touches such a reach if it holds a byte of the part, or begins
-- with that token, and else doesn't.
abbrev pub TouchesAhead : Type 0
TouchesAhead =
    (m part : Change) (next : ℕ) (reach : Span) → m.start < m.end → part.start ≤ part.end → IsAhead part next reach
    → (m.start < part.end) ⊎ (next ≤ m.start) → IsTrue (touches m reach) ↔ (Holds m part ⊎ (m.start ≡ next))

-- The same of one that doesn't end between the part and the token in front.
abbrev pub TouchesBehind : Type 0
TouchesBehind =
    (m part : Change) (last : ℕ) (reach : Span) → m.start < m.end → part.start ≤ part.end → IsBehind part last reach
    → (m.end ≤ last) ⊎ (part.start < m.end) → IsTrue (touches m reach) ↔ (Holds m part ⊎ (m.end ≡ last))
