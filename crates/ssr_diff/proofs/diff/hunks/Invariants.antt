use Rattle.ssr_diff.specs.Private.Writing.{IsWriting}
use Rattle.ssr_diff.proofs.diff.hunks.Given as goal

abbrev pub invariant-loop-cut : goal.invariant-loop-cut
invariant-loop-cut l = IsWriting l.texts.old l.texts.new l.hunks
