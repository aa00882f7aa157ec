-- What holds a kept match: the nearest of the kept matches over it, by the placeholder in which it lies. Outermost are the
-- matches that none is over.
use Rattle.std.specs.Prelude.{ℕ, ◌≡◌, ◌⊎◌, List, length, slice_get, Option, Some, None, All, AllPairs, Contains}
use Rattle.ssr_base_trees.specs.Workspace.{Workspace, PlacedTree, trees}
use Rattle.ssr_base_trees.specs.Built.{IsBuilt}
use Rattle.ide_ssr_bindings.specs.Found.{FoundMatch, IsMatch}
use Rattle.ide_ssr_nesting.specs.declared.holders.Holder.{Holder}
use Rattle.ide_ssr_nesting.specs.Kept.{IsOver, LiesUnder, Fits, ComesBefore}

abbrev pub IsOutermost : List PlacedTree → List FoundMatch → FoundMatch → Type 0
IsOutermost trees kept m = (k : FoundMatch) → Contains kept k → IsOver trees k m → ⊥

-- this match is the nearest one over m: each other one over m is over it too
pub record IsNearest (trees : List PlacedTree) (kept : List FoundMatch) (m nearest : FoundMatch) : Type 0 where
  pub over : IsOver trees nearest m
  pub others : (k : FoundMatch) → Contains kept k → IsOver trees k m → (k ≡ nearest) ⊎ IsOver trees k nearest

-- the match at the holder's place is the nearest one over m, which lies in the placeholder of the holder's binding
pub record IsHeldBy (trees : List PlacedTree) (kept : List FoundMatch) (m : FoundMatch) (holder : Holder) : Type 0 where
  pub nearest : FoundMatch
  pub stands : slice_get kept holder.place ≡ Some nearest
  pub is_nearest : IsNearest trees kept m nearest
  pub under : LiesUnder trees nearest m holder.binding

abbrev pub IsHeld : List PlacedTree → List FoundMatch → FoundMatch → Option Holder → Type 0
IsHeld trees kept m None = IsOutermost trees kept m
IsHeld trees kept m (Some holder) = IsHeldBy trees kept m holder

-- matches in order, each of which fits the others, and beside each of them what holds it
pub record AreHeld (trees : List PlacedTree) (kept : List FoundMatch) (holders : List (Option Holder)) : Type 0 where
  pub each : All (IsMatch trees) kept
  pub in_order : AllPairs (ComesBefore trees) kept
  pub fit : (m : FoundMatch) → Contains kept m → Fits trees kept m
  pub counted : length holders ≡ length kept
  pub held : (n : ℕ) (m : FoundMatch) (holder : Option Holder) → slice_get kept n ≡ Some m → slice_get holders n ≡ Some holder → IsHeld trees kept m holder

-- kept matches of a workspace, and beside each of them what holds it
pub record Kept : Type 0 where
  pub workspace : Workspace
  pub matches : List FoundMatch
  pub holders : List (Option Holder)

-- what is known of the kept matches of a workspace, and of what holds them
pub record IsKept (kept : Kept) : Type 0 where
  pub built : IsBuilt kept.workspace
  pub held : AreHeld (trees kept.workspace) kept.matches kept.holders
