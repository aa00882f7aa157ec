use Rattle.std.proofs.Common.{length}
use Rattle.ide_ssr_matching.specs.Private.Children.{siblings_left}
use Rattle.ide_ssr_matching.proofs.Bare.{IsPassed}
use Rattle.ide_ssr_matching.proofs.children.Siblings.next_solid.Given as goal

abbrev pub invariant-loop-child : goal.invariant-loop-child
invariant-loop-child l = IsPassed l.tree (siblings_left l.fn.self) (siblings_left l.self)

abbrev pub decreases-loop-child : goal.decreases-loop-child
decreases-loop-child l = length (siblings_left l.self)
