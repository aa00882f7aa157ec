use Rattle.std.proofs.Common.{arith}
use Rattle.ssr_diff.proofs.SameLines.{same_none}
use Rattle.ssr_diff.proofs.diff.hunks.Goals as goal

pub loop-cut-init : goal.loop-cut-init
loop-cut-init c = rw (c.new-hunks.ensures.current, c.new-hunks.ensures.at) (c.new-hunks.ensures.text, same_none _ _ _ (omega arith) (omega arith))
