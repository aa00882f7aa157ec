use Rattle.std.proofs.Common.{sym}
use Rattle.ide_ssr_matching.proofs.Bare.{passed-kept, passed-next}
use Rattle.ide_ssr_matching.proofs.children.Siblings.next_solid.Goals as goal

pub returns-then-not-is_trivia-clause-kept : goal.returns-then-not-is_trivia-clause-kept
returns-then-not-is_trivia-clause-kept c = passed-kept _ _ _ _ c.loop-child.invariant c.in-Some.ensures.gives

pub loop-child-preserved : goal.loop-child-preserved
loop-child-preserved c = passed-next _ _ _ _ c.in-Some.child c.loop-child.invariant c.in-Some.ensures.gives (sym c.if-not-is_trivia.ensures)
