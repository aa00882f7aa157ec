use Rattle.std.proofs.Common.{sym, subst, All}
use Rattle.std.proofs.lemmas.List.Elements.{All-push}
use Rattle.ide_ssr_nesting.specs.Private.Rows.{IsRowOf}
use Rattle.ide_ssr_nesting.proofs.Listing.{places_more}
use Rattle.ide_ssr_nesting.proofs.lists.rows.Goals as goal

pub loop-place-preserved : goal.loop-place-preserved
loop-place-preserved c = (
  subst (All (IsRowOf c.args.kept.now)) (sym c.in_ok-push.ensures.items)
      (All-push (IsRowOf c.args.kept.now) c.loop-place.rows.items c.row_at.result c.loop-place.invariant.0 c.row_at.ensures.row),
  places_more c.loop-place.rows.items _ c.row_at.result c.loop-place.place c.loop-place.invariant.1 c.in_ok-push.ensures.items c.row_at.ensures.place,
)
