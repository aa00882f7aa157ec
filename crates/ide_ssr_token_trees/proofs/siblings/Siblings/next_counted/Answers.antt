use Rattle.std.proofs.Common.{sym}
use Rattle.ssr_syntax_tree.specs.Places.{HasElement}
use Rattle.ide_ssr_token_trees.proofs.Rests.{rest_first, rest_next, passed_came, counted_came}
use Rattle.ide_ssr_token_trees.proofs.siblings.Siblings.next_counted.Goals as goal

pub passes-requires : goal.passes-requires
passes-requires c =
    rest_first (HasElement c.args.tree.now) _ _ c.in-Some.element
    (rest_next _ _ c.advance.new.self c.in-Some.element c.loop-element.invariant.rest c.in-Some.ensures.gives c.in-Some.ensures.comma) c.requires

pub returns-then-not-passes-clause-gives : goal.returns-then-not-passes-clause-gives
returns-then-not-passes-clause-gives c =
    counted_came _ _ _ c.advance.new.self c.in-Some.element c.loop-element.invariant c.in-Some.ensures.gives c.in-Some.ensures.comma (sym c.if-not-passes.ensures)

pub returns-then-not-passes-clause-rest : goal.returns-then-not-passes-clause-rest
returns-then-not-passes-clause-rest c =
    rest_next _ _ c.advance.new.self c.in-Some.element c.loop-element.invariant.rest c.in-Some.ensures.gives c.in-Some.ensures.comma

pub loop-element-preserved : goal.loop-element-preserved
loop-element-preserved c =
    passed_came _ _ _ c.advance.new.self c.in-Some.element c.loop-element.invariant c.in-Some.ensures.gives c.in-Some.ensures.comma (sym c.if-not-passes.ensures)
