use Rattle.std.proofs.Common.{◌≡◌, ◌∷◌, map, ap, arith}
use Rattle.ssr_base_trees.specs.Applied.{change_of}
use Rattle.ssr_base_trees.specs.Origins.{Span, span_of}
use Rattle.ssr_base_trees.proofs.Changes.{changes_from}
use Rattle.ssr_set_aside.specs.SetAside.{Covers}
use Rattle.ssr_set_aside.proofs.KeptPlaces.{begin_from, covered_from}
use Rattle.ssr_set_aside.proofs.keeping.cover.Goals as goal

pub loop-range-preserved : goal.loop-range-preserved
loop-range-preserved c =
    let pair = c.loop-range-item.result in
    let first : Span = span_of c.in-Some.reach.now in
    let from = changes_from c.args.changes.now c.loop-range.range-index pair c.loop-range-test.true c.loop-range-item.is in
    let are : map span_of c.loop-range.left.now ≡ first ∷ map span_of c.in-Some.others.now = ap (map span_of) c.in-Some.ensures.cases.0 in
    let over : Covers first (change_of pair) = (omega arith, omega arith) in
    record {
      covered = λ all. c.loop-range.invariant.covered (covered_from (change_of pair) _ _ first _ _ from are over all);
      order = λ o. c.loop-range.invariant.order (begin_from c.loop-range.from first _ _ are (omega arith) o);
    }
