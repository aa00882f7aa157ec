use Rattle.std.proofs.Common.{rules, arith}
use Rattle.ssr_swaps.proofs.NodeMarks.{same_more, same_there}
use Rattle.ssr_swaps.proofs.marks.are_same.Goals as goal

pub loop-number-preserved : goal.loop-number-preserved
loop-number-preserved c =
    same_more c.args.marks.now c.args.others.now c.loop-number.number _ _ (omega arith) (omega arith)
    (c.if-not-is_same_mark.ensures.0 (search rules)) c.loop-number.invariant

pub returns-then-not-is_same_mark : goal.returns-then-not-is_same_mark
returns-then-not-is_same_mark c = (
  λ told. cc,
  λ same. c.if-not-is_same_mark.ensures.1
      (same_there c.args.marks.now c.args.others.now c.loop-number.number _ _ (omega arith) (omega arith) same),
)
