-- How nested matches show the kept ones: the outermost ones in the order of their list, and under each placeholder those that
-- it holds.
use Rattle.std.specs.Prelude.{ℕ, ◌≡◌, List, [], ◌∷◌, Some, None, slice_get}
use Rattle.ide_ssr_resolved_rule.specs.Resolved.{ResolvedRule}
use Rattle.ide_ssr_bindings.specs.declared.bindings.Binding.{Binding}
use Rattle.ide_ssr_bindings.specs.Found.{FoundMatch}
use Rattle.ide_ssr_nesting.specs.Holding.{Kept}
use Rattle.ide_ssr_nesting.specs.Lists.{Listing, listed}
use Rattle.ide_ssr.specs.declared.matches.Match.{Match}
use Rattle.ide_ssr.specs.declared.matches.PlaceholderMatch.{PlaceholderMatch}
use Rattle.ide_ssr.specs.Finder.{Finder}
use Rattle.ide_ssr.specs.Searching.{IsOutcome}
use Rattle.ide_ssr.specs.Matches.{placeholders_of, inner_of}
use Rattle.ide_ssr.specs.Parts.{HasParts, HasBinding}
use Rattle.ide_ssr.specs.Starts.{AreByStart}

mutual
  -- nested matches show the kept ones of these places, one by one
  pub data Show (rules : List ResolvedRule) (kept : Kept) (lists : Listing) : List ℕ → List Match → Type 0 where
    none : Show rules kept lists [] []
    next : (n : ℕ) (ns : List ℕ) (v : Match) (vs : List Match)
        → Shows rules kept lists n v → Show rules kept lists ns vs → Show rules kept lists (n ∷ ns) (v ∷ vs)

  -- a nested match shows the kept one of the place n, its placeholders by where they begin
  pub data Shows (rules : List ResolvedRule) (kept : Kept) (lists : Listing) : ℕ → Match → Type 0 where
    at : (n : ℕ) (m : FoundMatch) (order : List ℕ) (v : Match) → slice_get kept.matches n ≡ Some m → HasParts kept.workspace m v
        → AreByStart kept.workspace m order → ShowBindings rules kept lists n m order (placeholders_of v) → Shows rules kept lists n v

  -- placeholders of the match m, which has the place n, show its bindings of these places, and what they hold
  pub data ShowBindings (rules : List ResolvedRule) (kept : Kept) (lists : Listing) : ℕ → FoundMatch → List ℕ → List PlaceholderMatch → Type 0 where
    end : (n : ℕ) (m : FoundMatch) → ShowBindings rules kept lists n m [] []
    bound : (n : ℕ) (m : FoundMatch) (i : ℕ) (b : Binding) (order : List ℕ) (p : PlaceholderMatch) (ps : List PlaceholderMatch)
        → slice_get m.bindings i ≡ Some b → HasBinding kept.workspace (slice_get rules m.rule) m.node.tree b p
        → Show rules kept lists (listed lists (Some (record { place = n; binding = i }))) (inner_of p)
        → ShowBindings rules kept lists n m order ps → ShowBindings rules kept lists n m (i ∷ order) (p ∷ ps)

-- nested matches show what a finder's search comes to: the outermost ones, with those that they hold
abbrev pub ShowKept : Finder → List Match → Type 0
ShowKept finder answer =
    (kept : Kept) × (lists : Listing) × IsOutcome finder kept lists × Show finder.rules kept lists (listed lists None) answer
