use Rattle.std.proofs.Common.{ap, ◌∙◌, arith}
use Rattle.std.proofs.lemmas.List.{take_all}
use Rattle.std.proofs.lemmas.Option.{slice_get_within}
use Rattle.ide_ssr_nesting.proofs.Listed.{lists_sorted}
use Rattle.ide_ssr_nesting.proofs.Listing.{places_of, row_none}
use Rattle.ide_ssr_nesting.proofs.lists.Lists.of_rows.Goals as goal

pub holder-requires : goal.holder-requires
holder-requires c =
    let row = c.requires.rows c.loop-row.row-index row_none c.loop-row-test.true in
    slice_get_within c.args.kept.now.matches _ row.match row.stands

pub invariant_of-result : goal.invariant_of-result
invariant_of-result c =
    let placed = c.loop-row.invariant.0 ∙ ap places_of (take_all c.loop-row.row-index c.args.rows.now (omega (arith, c.loop-row-test.false))) in
    lists_sorted c.args.kept.now c.args.rows.now c.requires.rows c.requires.in_order
    (record { places = c.loop-row.places.items; holders = c.loop-row.holders.items }) placed c.loop-row.invariant.1
