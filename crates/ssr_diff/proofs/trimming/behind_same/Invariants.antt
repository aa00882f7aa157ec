use Rattle.std.proofs.Common.{◌-◌}
use Rattle.ssr_diff.specs.Private.Writing.{AreInOrder, SameLines}
use Rattle.ssr_diff.proofs.trimming.behind_same.Given as goal

abbrev pub invariant-loop-at : goal.invariant-loop-at
invariant-loop-at l = record { same : SameLines l.texts.old l.texts.new l.fn.from l.at; left : AreInOrder l.texts.old l.texts.new l.at l.to }

abbrev pub decreases-loop-at : goal.decreases-loop-at
decreases-loop-at l = l.to.old - l.at.old
