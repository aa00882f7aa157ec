use Rattle.std.proofs.Common.{◌≡◌, length}
use Rattle.std.specs.Prelude.{◌↔◌}
use Rattle.ssr_standing.specs.Private.Siblings.{HasAll, marks_left}
use Rattle.ssr_standing.proofs.siblings.are_same.Given as goal

abbrev pub invariant-loop-mark : goal.invariant-loop-mark
invariant-loop-mark l = record {
  same : (marks_left l.fn.one ≡ marks_left l.fn.two) ↔ (marks_left l.one ≡ marks_left l.two);
  one : HasAll l.one;
  two : HasAll l.two;
}

abbrev pub decreases-loop-mark : goal.decreases-loop-mark
decreases-loop-mark l = length (marks_left l.one)
