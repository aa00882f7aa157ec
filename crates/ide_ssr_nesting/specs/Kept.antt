-- Which of the matches that are found are kept: those that lie in a placeholder of each kept match over them.
use Rattle.std.specs.Prelude.{ℕ, ◌≡◌, ◌<◌, ◌↔◌, ◌⊎◌, List, Option, Some, slice_get, AllPairs, Contains}
use Rattle.std.specs.Option.{IsSomeAnd}
use Rattle.ssr_base_trees.specs.Workspace.{PlacedTree, FileSpan, original_range}
use Rattle.ssr_base_trees.specs.Laws.{IsBelow, LiesIn}
use Rattle.ide_ssr_bindings.specs.declared.bindings.Binding.{Binding}
use Rattle.ide_ssr_bindings.specs.Found.{FoundMatch, held_range}
use Rattle.ide_ssr_nesting.specs.Order.{Precedes}

-- there are two ranges, and one lies in the other
abbrev pub LiesWithin : Option FileSpan → Option FileSpan → Type 0
LiesWithin inner outer = IsSomeAnd inner (λ i. IsSomeAnd outer (λ o. LiesIn i o))

-- k stands above m, or at the same node with an earlier rule
abbrev pub IsOver : List PlacedTree → FoundMatch → FoundMatch → Type 0
IsOver trees k m = IsBelow trees m.node k.node ⊎ ((k.node ≡ m.node) × (k.rule < m.rule))

-- m lies in the placeholder of k whose binding has this place
pub record LiesUnder (trees : List PlacedTree) (k m : FoundMatch) (place : ℕ) : Type 0 where
  pub binding : Binding
  pub is : slice_get k.bindings place ≡ Some binding
  pub within : LiesWithin (original_range trees m.node) (held_range trees k.node.tree binding)

abbrev pub LiesInPlaceholder : List PlacedTree → FoundMatch → FoundMatch → Type 0
LiesInPlaceholder trees k m = (place : ℕ) × LiesUnder trees k m place

-- m lies in a placeholder of each of these matches that is over it
abbrev pub Fits : List PlacedTree → List FoundMatch → FoundMatch → Type 0
Fits trees kept m = (k : FoundMatch) → Contains kept k → IsOver trees k m → LiesInPlaceholder trees k m

-- k comes before m: in the order of nodes, at a node in that of rules
abbrev pub ComesBefore : List PlacedTree → FoundMatch → FoundMatch → Type 0
ComesBefore trees k m = Precedes trees k.node m.node ⊎ ((k.node ≡ m.node) × (k.rule < m.rule))

-- These are the kept ones of the matches that are found, in order. There is one such list, as the law `laws::keeping` says.
pub record AreKept (trees : List PlacedTree) (found kept : List FoundMatch) : Type 0 where
  pub in_order : AllPairs (ComesBefore trees) kept
  pub are : (m : FoundMatch) → Contains kept m ↔ (Contains found m × Fits trees kept m)

-- ** What need not be found.

-- m stands at the node of k, which has an earlier rule, and in none of its placeholders
pub record IsShadowedBy (trees : List PlacedTree) (k m : FoundMatch) : Type 0 where
  pub node : k.node ≡ m.node
  pub rule : k.rule < m.rule
  pub outside : LiesInPlaceholder trees k m → ⊥

abbrev pub IsShadowed : List PlacedTree → List FoundMatch → FoundMatch → Type 0
IsShadowed trees ms m = (k : FoundMatch) × Contains ms k × IsShadowedBy trees k m

-- These are found, and what else is found is shadowed by one of these. That is never kept, as the law `laws::keeping` says.
pub record AreEnough (trees : List PlacedTree) (IsFound : FoundMatch → Type 0) (ms : List FoundMatch) : Type 0 where
  pub found : (m : FoundMatch) → Contains ms m → IsFound m
  pub enough : (m : FoundMatch) → IsFound m → Contains ms m ⊎ IsShadowed trees ms m
