use Rattle.std.proofs.Common.{sym}
use Rattle.ide_ssr_matching.proofs.Arguments.{front-next}
use Rattle.ide_ssr_matching.proofs.children.Siblings.pass_to_arguments.Goals as goal

pub loop-child-preserved : goal.loop-child-preserved
loop-child-preserved c = front-next _ _ _ _ c.in-Some.child c.loop-child.invariant c.in-Some.ensures.gives (sym c.if-holds_arguments.ensures)
