use Rattle.std.proofs.Common.{arith}
use Rattle.ssr_base_trees.specs.Applied.{change_of}
use Rattle.ssr_base_trees.proofs.Changes.{changes_from}
use Rattle.ssr_set_aside.specs.SetAside.{KeepsLength}
use Rattle.ssr_set_aside.proofs.KeptPlaces.{order_from, lengths_from}
use Rattle.ssr_set_aside.proofs.keeping.keep_places.Goals as goal

pub loop-range-preserved : goal.loop-range-preserved
loop-range-preserved c =
    let from = changes_from c.args.changes.now c.loop-range.range-index c.loop-range-item.result c.loop-range-test.true c.loop-range-item.is in
    let keeps : KeepsLength (change_of c.loop-range-item.result) = omega arith in
    record {
      order = λ o. c.loop-range.invariant.order (order_from c.loop-range.end (change_of c.loop-range-item.result) _ _ from (omega arith) (omega arith) o);
      lengths = λ all. c.loop-range.invariant.lengths (lengths_from (change_of c.loop-range-item.result) _ _ from keeps all);
    }
