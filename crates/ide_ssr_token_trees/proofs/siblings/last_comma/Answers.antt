use Rattle.std.proofs.Common.{◌∙◌, sym}
use Rattle.ide_ssr_token_trees.proofs.Commas.{comma_came, comma_found, comma_had, comma_none, comma_starts}
use Rattle.ide_ssr_token_trees.proofs.siblings.last_comma.Goals as goal

pub loop-element-init : goal.loop-element-init
loop-element-init c =
    comma_starts c.args.tree.now c.args.node.0 _ c.requires
    (c.into_iter-element-iterator.ensures.into_iter_gives ∙ c.children-element-items.ensures.elements)

pub closes_behind-requires : goal.closes_behind-requires
closes_behind-requires c = comma_had _ _ _ c.in-Some.element _ _ c.loop-element.invariant c.in-Some.ensures.steps

pub comma_at-comma-requires : goal.comma_at-comma-requires
comma_at-comma-requires c = comma_had _ _ _ c.in-Some.element _ _ c.loop-element.invariant c.in-Some.ensures.steps

pub loop-element-preserved : goal.loop-element-preserved
loop-element-preserved c =
    comma_came _ _ _ _ c.in-Some.element _ _ c.loop-element.invariant c.in-Some.ensures.steps (sym c.closes_behind.ensures ∙ c.if-closes_behind.false)
    c.comma_at-comma.ensures

pub returns-then-closes_behind : goal.returns-then-closes_behind
returns-then-closes_behind c =
    comma_found _ _ _ c.in-Some.element _ _ c.loop-element.invariant c.in-Some.ensures.steps (sym c.closes_behind.ensures ∙ c.if-closes_behind.true)

pub returns : goal.returns
returns c = comma_none _ _ _ _ c.loop-element.invariant c.in-None.ensures.steps.0
