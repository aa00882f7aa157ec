use Rattle.std.proofs.Common.{◌≡◌, length, map}
use Rattle.ssr_base_trees.specs.Origins.{span_of}
use Rattle.ssr_set_aside.specs.Private.Sparing.{behind}
use Rattle.ssr_set_aside.proofs.sparing.behind.Given as goal

abbrev pub invariant-loop-first : goal.invariant-loop-first
invariant-loop-first l = behind l.place (map span_of l.left) ≡ behind l.place (map span_of l.fn.ranges)

abbrev pub decreases-loop-first : goal.decreases-loop-first
decreases-loop-first l = length l.left
