use Rattle.std.proofs.lemmas.List.{take_all}
use Rattle.ssr_streams.proofs.Pieces.{sent_none, sent_no_byte, sent_more, sent_whole, within}
use Rattle.ssr_streams.proofs.sending.write_all.Goals as goal

pub returns-in-Ok-eq0 : goal.returns-in-Ok-eq0
returns-in-Ok-eq0 g c =
    let e = rw c.in-Ok-eq0.field-0-test at c.in-Ok-eq0.ensures in
    sent_no_byte _ _ _ _ _ c.loop-at-test.true c.loop-at.invariant.1 e.ok

pub loop-at-preserved : goal.loop-at-preserved
loop-at-preserved g c = (
  within _ _ _ _ _ c.loop-at-test.true c.loop-at.invariant.1 _ c.in-Ok.ensures.ok,
  sent_more _ _ _ _ _ c.loop-at-test.true c.loop-at.invariant.1 _ c.in-Ok.count-test.1 c.in-Ok.ensures.ok,
)

pub returns-in-Err : goal.returns-in-Err
returns-in-Err g c = sent_none _ _ _ _ _ c.loop-at-test.true c.loop-at.invariant.1 c.in-Err.ensures.err

pub returns : goal.returns
returns g c = sent_whole _ _ _ _ (take_all _ _ c.loop-at-test.false) c.loop-at.invariant.1
