use Rattle.std.proofs.Common.{refl}
use Rattle.ssr_base_trees.specs.Applied.{change_of, changes_of}
use Rattle.ssr_base_trees.proofs.Changes.{changes_from, fits_here, one_more}
use Rattle.ssr_standing.proofs.parts.replaced.Goals as goal

pub between-requires-clause-to : goal.between-requires-clause-to
between-requires-clause-to c =
    (fits_here c.args.text.now c.args.changes.now (changes_of c.args.changes.now) c.loop-change.change-index c.loop-change-item.result
    c.loop-change-test.true c.loop-change-item.is refl c.requires.changes).0

pub loop-change-preserved : goal.loop-change-preserved
loop-change-preserved c = record {
  written = one_more c.args.text.now _ _ _ _ _ _ _ _ (change_of c.loop-change-item.result) _ _ c.loop-change.invariant.written
      (changes_from c.args.changes.now c.loop-change.change-index c.loop-change-item.result c.loop-change-test.true c.loop-change-item.is)
      c.in_ok-push_str.ensures.bytes c.in_ok-push_str-2.ensures.bytes c.between.ensures c.as_str.ensures.value;
  place = (fits_here c.args.text.now c.args.changes.now (changes_of c.args.changes.now) c.loop-change.change-index c.loop-change-item.result
      c.loop-change-test.true c.loop-change-item.is refl c.requires.changes).1;
}
