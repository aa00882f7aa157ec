use Rattle.std.proofs.Common.{sym}
use Rattle.ssr_syntax_tree.specs.Places.{HasElement}
use Rattle.ide_ssr_token_trees.proofs.Rests.{rest_first, rest_next, solid_came, trivia_came}
use Rattle.ide_ssr_token_trees.proofs.siblings.Siblings.next_solid.Goals as goal

pub is_trivia-requires : goal.is_trivia-requires
is_trivia-requires c =
    rest_first (HasElement c.args.tree.now) _ _ c.in-Some.element
    (rest_next _ _ c.advance.new.self c.in-Some.element c.loop-element.invariant.rest c.in-Some.ensures.gives c.in-Some.ensures.comma) c.requires

pub returns-then-not-is_trivia-clause-gives : goal.returns-then-not-is_trivia-clause-gives
returns-then-not-is_trivia-clause-gives c =
    solid_came _ _ _ c.advance.new.self c.in-Some.element c.loop-element.invariant c.in-Some.ensures.gives (sym c.if-not-is_trivia.ensures)

pub returns-then-not-is_trivia-clause-rest : goal.returns-then-not-is_trivia-clause-rest
returns-then-not-is_trivia-clause-rest c =
    rest_next _ _ c.advance.new.self c.in-Some.element c.loop-element.invariant.rest c.in-Some.ensures.gives c.in-Some.ensures.comma

pub loop-element-preserved : goal.loop-element-preserved
loop-element-preserved c =
    trivia_came _ _ _ c.advance.new.self c.in-Some.element c.loop-element.invariant c.in-Some.ensures.gives c.in-Some.ensures.comma (sym c.if-not-is_trivia.ensures)
