use Rattle.std.proofs.Common.{arith, sym, ◌∙◌, ◌≤◌, ◌+◌, Some}
use Rattle.ssr_syntax_tree.specs.Places.{HasElement}
use Rattle.ide_ssr_token_trees.specs.Elements.{tokens_among}
use Rattle.ide_ssr_token_trees.specs.Private.Siblings.{parts_left}
use Rattle.ide_ssr_token_trees.proofs.Rests.{rest_first, rest_next, rest_back}
use Rattle.ide_ssr_token_trees.proofs.Runs.{count_starts, count_next, count_ends, count_left, count_fits, count_none, left_none}
use Rattle.ide_ssr_token_trees.proofs.siblings.Siblings.count_up_to.Goals as goal

pub begins_with-requires : goal.begins_with-requires
begins_with-requires c =
    rest_first (HasElement c.args.tree.now) _ _ c.in-Some.element
    (rest_next _ _ c.advance.new.self c.in-Some.element c.loop-element.invariant.rest c.in-Some.ensures.gives c.in-Some.ensures.comma) c.requires.has

pub tokens_of-count-requires : goal.tokens_of-count-requires
tokens_of-count-requires c =
    rest_first (HasElement c.args.tree.now) _ _ c.in-Some.element
    (rest_next _ _ c.advance.new.self c.in-Some.element c.loop-element.invariant.rest c.in-Some.ensures.gives c.in-Some.ensures.comma) c.requires.has

pub loop-element-init : goal.loop-element-init
loop-element-init c = count_starts _ _ _

pub loop-element-preserved : goal.loop-element-preserved
loop-element-preserved c =
    count_next _ _ _ _ c.advance.new.self c.in-Some.element _ c.loop-element.invariant c.in-Some.ensures.gives c.in-Some.ensures.comma _
    c.tokens_of-count.ensures.count (sym c.begins_with.ensures ∙ c.if-begins_with.false)

pub overflow_add-count : goal.overflow_add-count
overflow_add-count c =
    let fits : c.loop-element.count + c.tokens_of-count.result.count ≤ tokens_among (parts_left c.args.tree.now c.args.self.now) =
    count_fits _ _ _ _ c.advance.new.self c.in-Some.element _ c.loop-element.invariant c.in-Some.ensures.gives c.in-Some.ensures.comma _
    c.tokens_of-count.ensures.count
    in
    let few = c.requires.few in
    omega arith

pub returns-then-begins_with-clause-count : goal.returns-then-begins_with-clause-count
returns-then-begins_with-clause-count c =
    count_ends _ _ _ _ c.advance.new.self c.in-Some.element _ c.loop-element.invariant c.in-Some.ensures.gives c.in-Some.ensures.comma
    (sym c.begins_with.ensures ∙ c.if-begins_with.true)

pub returns-then-begins_with-clause-gives : goal.returns-then-begins_with-clause-gives
returns-then-begins_with-clause-gives c =
    count_left _ _ _ _ c.advance.new.self c.in-Some.element _ c.loop-element.invariant c.in-Some.ensures.gives c.in-Some.ensures.comma
    (sym c.begins_with.ensures ∙ c.if-begins_with.true) c.in-Some.ensures.held

pub returns-then-begins_with-clause-rest : goal.returns-then-begins_with-clause-rest
returns-then-begins_with-clause-rest c =
    rest_back _ c.advance.new.self (Some c.in-Some.element)
    (rest_next _ _ c.advance.new.self c.in-Some.element c.loop-element.invariant.rest c.in-Some.ensures.gives c.in-Some.ensures.comma) c.in-Some.ensures.held

pub returns-clause-count : goal.returns-clause-count
returns-clause-count c = count_none _ _ _ _ c.advance.new.self _ c.loop-element.invariant c.in_default.ensures.gives c.in_default.ensures.none

pub returns-clause-gives : goal.returns-clause-gives
returns-clause-gives c = left_none _ _ _ _ c.advance.new.self _ c.loop-element.invariant c.in_default.ensures.gives c.in_default.ensures.none
