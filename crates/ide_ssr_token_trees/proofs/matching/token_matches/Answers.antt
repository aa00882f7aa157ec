use Rattle.std.proofs.lemmas.Result.{IfOk-weaker}
use Rattle.std.specs.Option.{option_copied}
use Rattle.ssr_syntax_tree.specs.Places.{token_of}
use Rattle.ide_ssr_token_trees.specs.Bindings.{placeholder_in, placeholder_by, leaf_by}
use Rattle.ide_ssr_token_trees.specs.Elements.{is_number, next_text, without_trivia}
use Rattle.ide_ssr_token_trees.specs.Private.Matching.{Steps}
use Rattle.ide_ssr_token_trees.specs.Private.Siblings.{number_of, parts_left}
use Rattle.ide_ssr_token_trees.proofs.Sizes.{Behind}
use Rattle.ide_ssr_token_trees.proofs.Steps.{placeholder_step, plain_step}
use Rattle.ide_ssr_token_trees.proofs.matching.token_matches.Goals as goal

pub returns-in-Some-clause-steps : goal.returns-in-Some-clause-steps
returns-in-Some-clause-steps c =
    let y = number_of c.args.cs.now.comma in
    let comma = is_number (number_of c.args.ps.now.comma) c.args.token.0 in
    let token = token_of c.args.pattern.now.tree.now c.args.token.0 in
    let text = next_text (without_trivia (parts_left c.args.pattern.now.tree.now c.args.ps.now)) in
    let cs = parts_left c.args.code.now c.args.cs.now in
    IfOk-weaker c.holds.result
    (λ answer. (behind : Behind) → Steps (placeholder_by c.in-Some.placeholder (option_copied c.next_text-text.result) behind cs)
    (behind (parts_left c.args.code.now c.holds.new.cs)) c.args.out.now c.holds.new.out answer)
    (λ answer. (behind : Behind) → Steps (leaf_by y (placeholder_in c.args.pattern.now.placeholders.now c.args.token.0) comma token text behind cs)
    (behind (parts_left c.args.code.now c.holds.new.cs)) c.args.out.now c.holds.new.out answer)
    (λ answer steps behind.
    placeholder_step y (placeholder_in c.args.pattern.now.placeholders.now c.args.token.0) comma token text (option_copied c.next_text-text.result) behind cs
    (behind (parts_left c.args.code.now c.holds.new.cs)) c.args.out.now c.holds.new.out answer c.in-Some.placeholder
    c.placeholder_at.result c.placeholder_at.ensures c.in-Some.is c.next_text-text.ensures.text (steps behind))
    c.holds.ensures.steps

pub returns-in-None-clause-steps : goal.returns-in-None-clause-steps
returns-in-None-clause-steps c = λ behind.
    plain_step (number_of c.args.cs.now.comma) (placeholder_in c.args.pattern.now.placeholders.now c.args.token.0)
    (is_number (number_of c.args.ps.now.comma) c.args.token.0) (token_of c.args.pattern.now.tree.now c.args.token.0)
    (next_text (without_trivia (parts_left c.args.pattern.now.tree.now c.args.ps.now))) behind (parts_left c.args.code.now c.args.cs.now)
    (behind (parts_left c.args.code.now c.plain_matches.new.cs)) c.args.out.now c.plain_matches.result
    c.placeholder_at.result c.placeholder_at.ensures c.in-None.is
    (c.plain_matches.ensures.steps (next_text (without_trivia (parts_left c.args.pattern.now.tree.now c.args.ps.now))) behind)
