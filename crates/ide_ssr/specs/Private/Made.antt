-- Private: which nested matches are made, while the kept ones are gone through from the last to the first.
use Rattle.std.specs.Prelude.{ℕ, ◌≡◌, ◌≢◌, ◌<◌, ◌≤◌, List, length, Option, Some, None, IfSome, slice_get, slice_index_or}
use Rattle.ide_ssr_resolved_rule.specs.Resolved.{ResolvedRule}
use Rattle.ide_ssr_bindings.specs.Found.{FoundMatch}
use Rattle.ide_ssr_nesting.specs.declared.holders.Holder.{Holder}
use Rattle.ide_ssr_nesting.specs.Holding.{Kept}
use Rattle.ide_ssr_nesting.specs.Lists.{Listing}
use Rattle.ide_ssr.specs.declared.matches.Match.{Match}
use Rattle.ide_ssr.specs.declared.matches.PlaceholderMatch.{PlaceholderMatch}
use Rattle.ide_ssr.specs.Nesting.{Shows, ShowBindings}
use Rattle.ide_ssr.specs.Starts.{AreByStart}

-- the match of the place n is made
abbrev pub IsMade : List ResolvedRule → Kept → Listing → List (Option Match) → ℕ → Type 0
IsMade rules kept lists made n = (v : Match) × (slice_index_or made n None ≡ Some v) × Shows rules kept lists n v

-- what has this holder waits for a match before the place n, or for none
abbrev pub Waits : ℕ → Option Holder → Type 0
Waits n holder = IfSome holder (λ h. h.place < n)

-- the matches from the place n on are made that wait for a match before it, or for none
pub record AreMade (rules : List ResolvedRule) (kept : Kept) (lists : Listing) (n : ℕ) (made : List (Option Match)) : Type 0 where
  pub counted : length made ≡ length kept.matches
  pub waiting : (j : ℕ) (holder : Option Holder) → n ≤ j → slice_get kept.holders j ≡ Some holder → Waits n holder → IsMade rules kept lists made j

-- the match of the place n doesn't hold that of the place j
abbrev pub IsNotHeldBy : Kept → ℕ → ℕ → Type 0
IsNotHeldBy kept n j = (h : Holder) → slice_get kept.holders j ≡ Some (Some h) → h.place ≢ n

-- placeholders show all bindings of the match m, which has the place n, by where they begin
pub record ShowPlaceholders (rules : List ResolvedRule) (kept : Kept) (lists : Listing) (n : ℕ) (m : FoundMatch) (placeholders : List PlaceholderMatch) : Type 0 where
  pub order : List ℕ
  pub by_start : AreByStart kept.workspace m order
  pub shown : ShowBindings rules kept lists n m order placeholders
