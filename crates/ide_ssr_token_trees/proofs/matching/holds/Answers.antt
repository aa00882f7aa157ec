use Rattle.std.specs.Option.{option_copied}
use Rattle.ide_ssr_token_trees.specs.Private.Siblings.{parts_left}
use Rattle.ide_ssr_token_trees.proofs.Steps.{lacks_step, holds_step}
use Rattle.ide_ssr_token_trees.proofs.matching.holds.Goals as goal

pub returns-in_default-clause-steps : goal.returns-in_default-clause-steps
returns-in_default-clause-steps c = λ behind. lacks_step c.args.placeholder (option_copied c.args.text) behind (parts_left c.args.code.now c.args.cs.now) _ _ _
    c.take_run.ensures.run c.in_default.is

pub returns-clause-steps : goal.returns-clause-steps
returns-clause-steps c = λ behind.
    holds_step c.args.placeholder (option_copied c.args.text) behind (parts_left c.args.code.now c.args.cs.now) _ _ _ c.in-Some.run' _ _ c.take_run.ensures.run c.in-Some.is c.in-Some.ensures.gives
    c.of_tokens.ensures c.in_ok-add.ensures
