use Rattle.std.proofs.Common.{ap, map, sym, ◌∙◌}
use Rattle.ssr_syntax_tree.specs.Places.{HasElement, part_of}
use Rattle.ide_ssr_token_trees.specs.Private.Siblings.{number_of, parts_left}
use Rattle.ide_ssr_token_trees.proofs.Rests.{rest_first, rest_passed}
use Rattle.ide_ssr_token_trees.proofs.Steps.{comma_step, ended_step, token_step}
use Rattle.ide_ssr_token_trees.proofs.matching.plain_matches.Goals as goal

pub is_same-requires-clause-c_in : goal.is_same-requires-clause-c_in
is_same-requires-clause-c_in c = rest_first (HasElement c.args.code.now) _ _ c.in-Some.next c.in-Some.ensures.rest c.requires.cs_in

pub returns-then-is_comma-clause-steps : goal.returns-then-is_comma-clause-steps
returns-then-is_comma-clause-steps c = λ text behind.
    comma_step (number_of c.args.cs.now.comma) _ _ text behind (parts_left c.args.code.now c.args.cs.now) _
    (sym c.is_comma.ensures ∙ c.if-is_comma.true) c.pass.ensures.gives

pub returns-in-None-clause-steps : goal.returns-in-None-clause-steps
returns-in-None-clause-steps c = λ text behind.
    ended_step (number_of c.args.cs.now.comma) _ _ text behind (parts_left c.args.code.now c.args.cs.now) _
    (sym c.is_comma.ensures ∙ c.if-is_comma.false) c.in-None.ensures.gives (ap (map (part_of c.args.code.now)) c.in-None.ensures.none)

pub returns-in-Some-clause-steps : goal.returns-in-Some-clause-steps
returns-in-Some-clause-steps c = λ text behind.
    token_step (number_of c.args.cs.now.comma) _ _ text behind (parts_left c.args.code.now c.args.cs.now) _ _ _
    (sym c.is_comma.ensures ∙ c.if-is_comma.false) c.in-Some.ensures.gives c.is_same.ensures

pub returns-in-Some-clause-rest : goal.returns-in-Some-clause-rest
returns-in-Some-clause-rest c = rest_passed _ _ c.in-Some.next c.in-Some.ensures.rest
