use Rattle.std.proofs.Common.{rules, sym}
use Rattle.ide_ssr_token_trees.proofs.Solid.{trivia_passed, solid_behind}
use Rattle.ide_ssr_token_trees.proofs.pattern_iterator.next_solid.Goals as goal

pub returns-then-not-is_trivia-clause-has : goal.returns-then-not-is_trivia-clause-has
returns-then-not-is_trivia-clause-has c = solid_behind _ _ _ _ c.in-Some.child c.loop-child.invariant.2 c.in-Some.ensures.steps

pub loop-child-preserved : goal.loop-child-preserved
loop-child-preserved c =
    (tt, tt, trivia_passed _ _ _ _ c.in-Some.child c.loop-child.invariant.2 c.in-Some.ensures.steps (sym c.if-not-is_trivia.ensures))

pub returns-then-not-is_trivia-clause-gives : goal.returns-then-not-is_trivia-clause-gives
returns-then-not-is_trivia-clause-gives c = search rules steps 200000
