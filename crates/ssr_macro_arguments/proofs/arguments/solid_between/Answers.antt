use Rattle.std.proofs.Common.{◌≡◌, ◌-◌, not, ap, ◌∙◌, arith}
use Rattle.std.specs.List.{filter, range_with_len}
use Rattle.ssr_syntax_kinds.specs.Kinds.{is_trivia}
use Rattle.ssr_syntax_tree.specs.Places.{token_of, HasToken}
use Rattle.ssr_macro_arguments.proofs.Between.{solid_next, had_next}
use Rattle.ssr_macro_arguments.proofs.arguments.solid_between.Goals as goal

pub loop-number-preserved : goal.loop-number-preserved
loop-number-preserved c =
    let tree = c.args.tree.now in
    record {
      numbers =
          solid_next (λ t. is_trivia (token_of tree t).kind) _ _ c.tokens_between-between.result.start c.loop-number.number (omega arith)
          c.in_ok-add_solid.ensures c.loop-number.invariant.numbers;
      has =
          had_next (HasToken tree) (is_trivia (token_of tree c.loop-number.number).kind) _ _ c.loop-number.number c.in_ok-add_solid.ensures
          (omega arith) c.loop-number.invariant.has;
    }

pub returns-clause-numbers : goal.returns-clause-numbers
returns-clause-numbers c =
    let tree = c.args.tree.now in
    let start = c.tokens_between-between.result.start in
    let end : c.loop-number.number ≡ c.tokens_between-between.result.end = omega arith in
    c.loop-number.invariant.numbers
    ∙ ap (λ n. filter (λ t. not (is_trivia (token_of tree t).kind)) (range_with_len start (n - start))) end
    ∙ ap (filter (λ t. not (is_trivia (token_of tree t).kind))) c.tokens_between-between.ensures.numbers
