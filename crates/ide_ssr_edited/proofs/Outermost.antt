-- The places of the outermost matches.
use Rattle.std.proofs.Common.{◌≡◌, ◌<◌, All, length, None, Some, arith}
use Rattle.std.specs.Prelude.{Contains, slice_get}
use Rattle.std.proofs.lemmas.List.Elements.{All-contains_itself, All-weaker}
use Rattle.std.proofs.lemmas.Option.{slice_get_within}
use Rattle.ide_ssr_nesting.specs.Holding.{IsKept, Kept}
use Rattle.ide_ssr_nesting.specs.Lists.{AreLists, Listing, listed}
use Rattle.ide_ssr_nesting.proofs.Shared.{lists_what_is_held}

-- they are places of kept matches
pub outermost_within : (kept : Kept) (lists : Listing) → IsKept kept → AreLists kept lists → All (λ n. n < length kept.matches) (listed lists None)
outermost_within kept lists is are =
    All-weaker (λ n. slice_get kept.holders n ≡ Some None) (λ n. n < length kept.matches)
    (λ n h. let low = slice_get_within kept.holders n None h in let counted = is.held.counted in omega arith)
    (listed lists None)
    (All-weaker (Contains (listed lists None)) (λ n. slice_get kept.holders n ≡ Some None)
    (λ n h. (lists_what_is_held kept is lists None n are).0 h) (listed lists None) (All-contains_itself (listed lists None)))
