use Rattle.std.proofs.Common.{◌≡◌, All}
use Rattle.std.specs.List.{range_with_len}
use Rattle.ide_ssr_nesting.specs.Private.Rows.{IsRowOf}
use Rattle.ide_ssr_nesting.proofs.Listing.{places_of}
use Rattle.ide_ssr_nesting.proofs.lists.rows.Given as goal

abbrev pub invariant-loop-place : goal.invariant-loop-place
invariant-loop-place l = All (IsRowOf l.kept) l.rows.items × (places_of l.rows.items ≡ range_with_len 0 l.place)
