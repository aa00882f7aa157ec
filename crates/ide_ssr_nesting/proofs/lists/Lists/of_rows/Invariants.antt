use Rattle.std.proofs.Common.{◌≡◌, map, take, slice_get, Some}
use Rattle.ide_ssr_nesting.proofs.Listing.{places_of}
use Rattle.ide_ssr_nesting.proofs.lists.Lists.of_rows.Given as goal

abbrev pub invariant-loop-row : goal.invariant-loop-row
invariant-loop-row l =
    (l.places.items ≡ places_of (take l.row-index l.rows)) × (map Some l.holders.items ≡ map (slice_get l.kept.holders) l.places.items)
