-- In which order a match shows its placeholders: by where what they hold begins.
use Rattle.std.specs.Prelude.{ℕ, ◌≡◌, ◌<◌, ◌⊎◌, ◌↔◌, List, length, slice_get, Option, Some, AllPairs, Contains}
use Rattle.std.specs.Option.{option_and_then, option_map}
use Rattle.ssr_base_trees.specs.Workspace.{Workspace, trees}
use Rattle.ide_ssr_bindings.specs.Found.{FoundMatch, held_range}

-- where in its file begins what the binding of this place holds
abbrev pub start_at : Workspace → FoundMatch → ℕ → Option ℕ
start_at w m i =
    option_and_then
    (λ binding. option_map (λ range. range.span.start) (held_range (trees w) m.node.tree binding))
    (slice_get m.bindings i)

-- one binding begins before another one, or where it does, and stands before it in the pattern
abbrev pub ComesFirst : Workspace → FoundMatch → ℕ → ℕ → Type 0
ComesFirst w m i j =
    (a b : ℕ) → start_at w m i ≡ Some a → start_at w m j ≡ Some b → (a < b) ⊎ ((a ≡ b) × (i < j))

-- the places of all bindings, by where these begin
pub record AreByStart (w : Workspace) (m : FoundMatch) (order : List ℕ) : Type 0 where
  pub each : (i : ℕ) → Contains order i ↔ (i < length m.bindings)
  pub in_order : AllPairs (ComesFirst w m) order
