use Rattle.ssr_standing.proofs.Passed.{one_passed, none_passed}
use Rattle.ssr_standing.proofs.holes.passed_from.Goals as goal

pub loop-place-preserved : goal.loop-place-preserved
loop-place-preserved c =
    one_passed c.args.places.now c.loop-place.count c.args.byte _ c.in-Some.place.now (c.in-Some.ensures.lookup.3.0) (c.in-Some.ensures.lookup.1) c.if-byte-place.false c.loop-place.invariant

pub returns-then-byte-place : goal.returns-then-byte-place
returns-then-byte-place c =
    none_passed c.args.places.now c.loop-place.count c.args.byte _ c.in-Some.place.now (c.in-Some.ensures.lookup.3.0) (c.in-Some.ensures.lookup.1) c.if-byte-place.true c.loop-place.invariant
