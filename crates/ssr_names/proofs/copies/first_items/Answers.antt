use Rattle.std.proofs.Common.{sym, subst}
use Rattle.std.specs.Prelude.{All}
use Rattle.ssr_names_items.specs.declared.table.ItemNo.{ItemNo}
use Rattle.ssr_names.specs.Declarations.{IsSameItem}
use Rattle.ssr_names.specs.Private.Copies.{IsItemPlace}
use Rattle.ssr_names.proofs.Copying.{first_pushed, one_longer, same_item}
use Rattle.ssr_names.proofs.copies.first_items.Goals as goal

pub loop-number-preserved : goal.loop-number-preserved
loop-number-preserved c =
    let l = c.loop-number in
    let table = c.args.table.now in
    let item : ItemNo = record { 0 = l.number } in
    let place = c.in-Some.place in
    let places = subst (All (IsItemPlace table)) (sym c.deref.ensures.value) c.in_ok-places.ensures in
    let found = c.first_at-first.ensures table places c.in-Some.ensures.place in
    record {
      count = one_longer l.firsts.items _ _ l.number c.in_ok-push.ensures.items l.invariant.count;
      first = first_pushed table l.firsts.items _ item _ c.in_ok-push.ensures.items l.invariant.count
          (subst (λ (i : ItemNo). IsSameItem table i c.first_at-first.result.item) c.in-Some.ensures.item (same_item table place c.first_at-first.result c.in-Some.ensures.place found.0 found.1))
          l.invariant.first;
    }
