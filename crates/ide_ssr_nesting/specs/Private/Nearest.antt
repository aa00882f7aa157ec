-- Private: the nearest match over another one, told by its place.
use Rattle.std.specs.Prelude.{ℕ, ◌≡◌, ◌++◌, ◌∷◌, [], ◌⊎◌, List, Some, slice_get}
use Rattle.ssr_base_trees.specs.Workspace.{PlacedTree}
use Rattle.ide_ssr_bindings.specs.Found.{FoundMatch}
use Rattle.ide_ssr_nesting.specs.Kept.{Fits}
use Rattle.ide_ssr_nesting.specs.Holding.{IsNearest}

-- the match at this place is the nearest one over m
pub record IsNearestAt (trees : List PlacedTree) (kept : List FoundMatch) (m : FoundMatch) (place : ℕ) : Type 0 where
  pub nearest : FoundMatch
  pub stands : slice_get kept place ≡ Some nearest
  pub is_nearest : IsNearest trees kept m nearest

-- m is kept behind the others exactly if it fits them
abbrev pub IsKeptIfFits : List PlacedTree → List FoundMatch → FoundMatch → List FoundMatch → Type 0
IsKeptIfFits trees before m after =
    (Fits trees before m × (after ≡ before ++ m ∷ [])) ⊎ ((Fits trees before m → ⊥) × (after ≡ before))
