use Rattle.std.proofs.Common.{refl, subst}
use Rattle.std.proofs.lemmas.Str.{IsCharBoundary-start}
use Rattle.ssr_base_trees.specs.Changes.{ChangesInOrder}
use Rattle.ssr_base_trees.specs.Applied.{change_of}
use Rattle.ssr_base_trees.proofs.Changes.{changes_from, one_more, fits_here, shown}
use Rattle.ssr_base_trees.proofs.edit.TextEdit.written.Goals as goal

pub loop-range-init : goal.loop-range-init
loop-range-init c = record {
  written = rw c.new-new.ensures.bytes refl;
  order = rw c.deref-range-items.ensures.value c.self.invariant;
  place = IsCharBoundary-start c.args.text.now c.utf8.text;
}

pub range-requires-clause-start_le_end : goal.range-requires-clause-start_le_end
range-requires-clause-start_le_end c =
    (subst (ChangesInOrder c.loop-range.at) (changes_from c.deref-range-items.result.now c.loop-range.range-index c.loop-range-item.result c.loop-range-test.true c.loop-range-item.is) c.loop-range.invariant.order).0

pub range-requires-clause-end_boundary : goal.range-requires-clause-end_boundary
range-requires-clause-end_boundary c =
    (fits_here _ _ _ _ _ c.loop-range-test.true c.loop-range-item.is (shown c.deref-range-items.ensures.value c.self.view_is) c.requires).0

pub loop-range-preserved : goal.loop-range-preserved
loop-range-preserved c =
    let from = changes_from c.deref-range-items.result.now c.loop-range.range-index c.loop-range-item.result c.loop-range-test.true c.loop-range-item.is in
    record {
      written = one_more c.args.text.now _ _ _ _ _ _ _ _ (change_of c.loop-range-item.result) _ _ c.loop-range.invariant.written from
          c.in_ok-push_str.ensures.bytes c.in_ok-push_str-2.ensures.bytes c.range.ensures.value c.as_str.ensures.value;
      order = (subst (ChangesInOrder c.loop-range.at) from c.loop-range.invariant.order).2;
      place = (fits_here _ _ _ _ _ c.loop-range-test.true c.loop-range-item.is (shown c.deref-range-items.ensures.value c.self.view_is) c.requires).1;
    }
