use Rattle.std.proofs.Common.{ap, sym, ◌∙◌, Some}
use Rattle.ssr_syntax_tree.specs.Places.{HasElement}
use Rattle.ide_ssr_token_trees.specs.Elements.{next_text}
use Rattle.ide_ssr_token_trees.proofs.Rests.{rest_back, rest_first, text_same, text_none}
use Rattle.ide_ssr_token_trees.proofs.siblings.Siblings.next_text.Goals as goal

pub first_text-requires : goal.first_text-requires
first_text-requires c = rest_first (HasElement c.args.tree.now) _ _ c.in-Some.next c.in-Some.ensures.rest c.requires

pub returns-clause-text : goal.returns-clause-text
returns-clause-text c = c.first_text.ensures ∙ sym (ap next_text c.in-Some.ensures.gives)

pub returns-clause-same : goal.returns-clause-same
returns-clause-same c =
    text_same c.args.tree.now c.args.self.now c.next_solid.new.self c.in-Some.next c.in-Some.ensures.gives c.in-Some.ensures.solid c.in-Some.ensures.held

pub returns-clause-rest : goal.returns-clause-rest
returns-clause-rest c = rest_back _ c.next_solid.new.self (Some c.in-Some.next) c.in-Some.ensures.rest c.in-Some.ensures.held

pub returns-in_default-clause-text : goal.returns-in_default-clause-text
returns-in_default-clause-text c = text_none c.args.tree.now c.args.self.now c.next_solid.new.self c.in_default.ensures.gives c.in_default.ensures.none

pub returns-in_default-clause-same : goal.returns-in_default-clause-same
returns-in_default-clause-same c = sym c.in_default.ensures.gives
