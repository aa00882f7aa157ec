use Rattle.std.proofs.Common.{◌≡◌, length}
use Rattle.ssr_standing.specs.Private.Siblings.{HasAll, marks_left}
use Rattle.ssr_standing.proofs.siblings.Siblings.next_mark.Given as goal

abbrev pub invariant-loop-child : goal.invariant-loop-child
invariant-loop-child l = record {
  same : marks_left l.fn.self ≡ marks_left l.self;
  tree : l.self.tree ≡ l.fn.self.tree;
  had : HasAll l.self;
}

abbrev pub decreases-loop-child : goal.decreases-loop-child
decreases-loop-child l = length l.self.left
