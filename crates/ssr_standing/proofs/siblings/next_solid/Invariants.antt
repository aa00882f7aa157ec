use Rattle.std.proofs.Common.{◌≤◌, All, length}
use Rattle.ssr_syntax_tree.specs.Places.{HasElement}
use Rattle.ssr_standing.specs.Private.Siblings.{HaveSameMarks}
use Rattle.ssr_standing.proofs.siblings.next_solid.Given as goal

abbrev pub invariant-loop-child : goal.invariant-loop-child
invariant-loop-child l = record {
  next : (goal.iterator-loop-child).can_next l.left;
  finite : (goal.iterator-loop-child).is_finite l.left;
  same : HaveSameMarks l.tree l.fn.left l.left;
  had : All (HasElement l.tree) l.left;
  fewer : length l.left ≤ length l.fn.left;
}
