-- Private: what is needed of kept matches and their lists so that they can be rewritten.
use Rattle.std.specs.Prelude.{ℕ, ◌≡◌, ◌<◌, ◌≢◌, true, List, length, slice_get, Option, Some, All, AllPairs, Contains}
use Rattle.ssr_base_trees.specs.Built.{IsBuilt}
use Rattle.ssr_base_trees.specs.Laws.{LiesIn}
use Rattle.ssr_base_trees.specs.Workspace.{FileSpan, trees}
use Rattle.ide_ssr_bindings.specs.declared.bindings.Binding.{Binding}
use Rattle.ide_ssr_bindings.specs.Found.{FoundMatch, IsMatch, held_range}
use Rattle.ide_ssr_nesting.specs.declared.holders.Holder.{Holder}
use Rattle.ide_ssr_nesting.specs.Holding.{Kept}
use Rattle.ide_ssr_nesting.specs.Lists.{Listing, listed}
use Rattle.ide_ssr_rewriting.specs.Private.Clashes.{range_le}
use Rattle.ide_ssr_rewriting.specs.Edits.{range_at}

-- the places of the matches under the placeholder whose binding has the place i, of the match of the place n
abbrev pub under : Listing → ℕ → ℕ → List ℕ
under listing n i = listed listing (Some (record { place = n; binding = i }))

-- a list has the places of matches with this holder, each once, in the order of ranges
pub record IsList (kept : Kept) (holder : Option Holder) (places : List ℕ) : Type 0 where
  pub within : All (λ n. n < length kept.matches) places
  pub held : All (λ n. slice_get kept.holders n ≡ Some holder) places
  pub once : AllPairs ◌≢◌ places
  pub ordered : AllPairs (λ a b. range_le (range_at kept a) (range_at kept b) ≡ true) places

-- Each holder has a list. What is in that of a placeholder comes behind the match that has the placeholder, and lies in what
-- this holds.
pub record IsNest (kept : Kept) (listing : Listing) : Type 0 where
  pub built : IsBuilt kept.workspace
  pub matches : All (IsMatch (trees kept.workspace)) kept.matches
  pub lists : (holder : Option Holder) → IsList kept holder (listed listing holder)
  pub before : (n i j : ℕ) → Contains (under listing n i) j → n < j
  pub within : (n i j : ℕ) (m : FoundMatch) (binding : Binding) (range : FileSpan)
      → slice_get kept.matches n ≡ Some m → slice_get m.bindings i ≡ Some binding → Contains (under listing n i) j
      → held_range (trees kept.workspace) m.node.tree binding ≡ Some range → LiesIn (range_at kept j) range
