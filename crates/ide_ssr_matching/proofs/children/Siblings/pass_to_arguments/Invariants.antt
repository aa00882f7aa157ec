use Rattle.std.proofs.Common.{length}
use Rattle.ide_ssr_matching.specs.Private.Children.{siblings_left}
use Rattle.ide_ssr_matching.proofs.Arguments.{AreInFront}
use Rattle.ide_ssr_matching.proofs.children.Siblings.pass_to_arguments.Given as goal

abbrev pub invariant-loop-child : goal.invariant-loop-child
invariant-loop-child l = AreInFront l.tree (siblings_left l.fn.self) (siblings_left l.self)

abbrev pub decreases-loop-child : goal.decreases-loop-child
decreases-loop-child l = length (siblings_left l.self)
