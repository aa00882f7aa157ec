use Rattle.ssr_diff.specs.Private.Writing.{AreInOrder, SameLines}
use Rattle.ssr_diff.proofs.trimming.before_same.Given as goal

abbrev pub invariant-loop-at : goal.invariant-loop-at
invariant-loop-at l = record { same : SameLines l.texts.old l.texts.new l.at l.fn.to; left : AreInOrder l.texts.old l.texts.new l.from l.at }

abbrev pub decreases-loop-at : goal.decreases-loop-at
decreases-loop-at l = l.at.old
