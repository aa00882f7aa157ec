-- What holds of the order of nodes, and of kept matches: the words of their laws.
use Rattle.std.specs.Prelude.{ℕ, ◌≡◌, ◌≢◌, ◌<◌, ◌↔◌, ◌⊎◌, List, length, slice_get, Option, Some, AllPairs, Contains}
use Rattle.std.specs.Cmp.Lexicographic.{slice_cmp}
use Rattle.std.specs.Ordering.{nat_cmp}
use Rattle.std.specs.declared.cmp.Ordering.TheVariants.{Less}
use Rattle.ssr_base_trees.specs.declared.ids.NodeId.{NodeId}
use Rattle.ssr_base_trees.specs.Workspace.{Workspace, PlacedTree, trees}
use Rattle.ssr_base_trees.specs.Built.{IsNodeOf}
use Rattle.ssr_base_trees.specs.Laws.{IsBelow}
use Rattle.ide_ssr_bindings.specs.Found.{FoundMatch, AreMatches}
use Rattle.ide_ssr_nesting.specs.declared.holders.Holder.{Holder}
use Rattle.ide_ssr_nesting.specs.Order.{place, end_place}
use Rattle.ide_ssr_nesting.specs.Kept.{AreKept, AreEnough, IsOver, LiesUnder}
use Rattle.ide_ssr_nesting.specs.Holding.{Kept, IsKept}
use Rattle.ide_ssr_nesting.specs.Lists.{listing_key, Listing, listed, AreLists}

-- the nodes below a node are those between its place and its end
abbrev pub BelowIsBetween : List PlacedTree → Type 0
BelowIsBetween trees =
    (a b : NodeId) → IsNodeOf trees a → IsNodeOf trees b
    → IsBelow trees b a ↔ ((place trees a < place trees b) × (place trees b < end_place trees a))

abbrev pub OnePlaceEach : List PlacedTree → Type 0
OnePlaceEach trees = (a b : NodeId) → IsNodeOf trees a → IsNodeOf trees b → place trees a ≡ place trees b → a ≡ b

-- two nodes above a third one are the same, or one stands above the other
abbrev pub OneWayUp : List PlacedTree → Type 0
OneWayUp trees =
    (a b c : NodeId) → IsNodeOf trees c → IsBelow trees c a → IsBelow trees c b
    → (a ≡ b) ⊎ (IsBelow trees a b ⊎ IsBelow trees b a)

-- some of the matches that are found are kept
abbrev pub KeptExist : Workspace → Type 0
KeptExist w =
    (found : List FoundMatch) → AreMatches (trees w) found
    → (kept : Kept) × (kept.workspace ≡ w) × AreKept (trees w) found kept.matches × IsKept kept

-- which matches are kept doesn't depend on the order in which they are found, nor on finding one twice
abbrev pub OneKept : List PlacedTree → Type 0
OneKept trees =
    (found again kept other : List FoundMatch)
    → AreMatches trees found → ((m : FoundMatch) → Contains found m ↔ Contains again m)
    → AreKept trees found kept → AreKept trees again other → kept ≡ other

-- of matches that are enough the same ones are kept as of all that are found
abbrev pub KeptOfEnough : List PlacedTree → Type 0
KeptOfEnough trees =
    (found enough kept : List FoundMatch)
    → AreEnough trees (Contains found) enough → AreKept trees enough kept ↔ AreKept trees found kept

-- a kept match lies in exactly one placeholder of each kept match over it
abbrev pub LiesInOnePlaceholder : List PlacedTree → Type 0
LiesInOnePlaceholder trees =
    (found kept : List FoundMatch) (k m : FoundMatch)
    → AreMatches trees found → AreKept trees found kept → Contains kept k → Contains kept m → IsOver trees k m
    → (place : ℕ) × LiesUnder trees k m place × ((other : ℕ) → LiesUnder trees k m other → other ≡ place)

-- the match at a place is ahead of that at the other place, in the order of a list
abbrev pub IsListedBefore : Kept → ℕ → ℕ → Type 0
IsListedBefore kept i j =
    (k m : FoundMatch) → slice_get kept.matches i ≡ Some k → slice_get kept.matches j ≡ Some m
    → slice_cmp nat_cmp (listing_key (trees kept.workspace) k) (listing_key (trees kept.workspace) m) ≡ Less

-- the list of a holder has the places of what it holds, and no others
abbrev pub ListsWhatIsHeld : Kept → Type 0
ListsWhatIsHeld kept =
    (lists : Listing) (holder : Option Holder) (n : ℕ)
    → AreLists kept lists → Contains (listed lists holder) n ↔ (slice_get kept.holders n ≡ Some holder)

-- the places of a list stand in its order, each once
abbrev pub ListsInOrder : Kept → Type 0
ListsInOrder kept =
    (lists : Listing) (holder : Option Holder) → AreLists kept lists → AllPairs (IsListedBefore kept) (listed lists holder)

abbrev pub ListsEachOnce : Kept → Type 0
ListsEachOnce kept =
    (lists : Listing) (holder : Option Holder) → AreLists kept lists → AllPairs (λ i j. i ≢ j) (listed lists holder)

-- kept matches have a way to list them
abbrev pub ListsExist : Kept → Type 0
ListsExist kept = (lists : Listing) × AreLists kept lists

-- kept matches have no two ways to list them
abbrev pub OneListing : Kept → Type 0
OneListing kept = (lists other : Listing) → AreLists kept lists → AreLists kept other → lists ≡ other

-- what a placeholder holds comes behind its match
abbrev pub HeldBehind : Kept → Type 0
HeldBehind kept =
    (n : ℕ) (holder : Holder) → slice_get kept.holders n ≡ Some (Some holder) → (holder.place < n) × (n < length kept.matches)

-- what holds the matches is told by the matches
abbrev pub OneHolding : Type 0
OneHolding = (a b : Kept) → IsKept a → IsKept b → a.workspace ≡ b.workspace → a.matches ≡ b.matches → a ≡ b
