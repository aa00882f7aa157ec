-- What is known of kept matches and their lists, in the form in which the proofs here need it.
use Rattle.std.proofs.Common.{◌≡◌, ◌≢◌, ℕ, ◌<◌, Option, Some, AllPairs, Contains}
use Rattle.std.specs.Prelude.{slice_get}
use Rattle.ide_ssr_nesting.specs.declared.holders.Holder.{Holder}
use Rattle.ide_ssr_nesting.specs.Holding.{Kept, IsKept}
use Rattle.ide_ssr_nesting.specs.Lists.{Listing, AreLists, listed}
use Rattle.ide_ssr_nesting.proofs.Shared.{held_behind, lists_each_once, lists_what_is_held}

pub of_holder : (kept : Kept) (lists : Listing) → IsKept kept → AreLists kept lists → (holder : Option Holder) (n : ℕ) → Contains (listed lists holder) n
    → slice_get kept.holders n ≡ Some holder
of_holder kept lists known are holder n at = (lists_what_is_held kept known lists holder n are).0 at

pub once : (kept : Kept) (lists : Listing) → AreLists kept lists → (holder : Option Holder) → AllPairs (λ m n. m ≢ n) (listed lists holder)
once kept lists are holder = lists_each_once kept lists holder are

pub before : (kept : Kept) → IsKept kept → (n : ℕ) (holder : Holder) → slice_get kept.holders n ≡ Some (Some holder) → holder.place < n
before kept known n holder is = (held_behind kept known n holder is).0
