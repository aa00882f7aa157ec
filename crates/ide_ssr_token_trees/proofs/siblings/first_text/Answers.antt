use Rattle.std.proofs.Common.{arith, sym, ◌∙◌, ◌<◌, ap, subst}
use Rattle.ssr_syntax_tree.specs.Places.{part_of, token_of, HasToken}
use Rattle.ide_ssr_token_trees.specs.Elements.{tokens_at}
use Rattle.ide_ssr_token_trees.proofs.FirstTokens.{has_first, text_first, text_none}
use Rattle.ide_ssr_token_trees.proofs.siblings.first_text.Goals as goal

pub returns-then-tokens-eq0 : goal.returns-then-tokens-eq0
returns-then-tokens-eq0 c = text_none c.args.tree.now c.args.element (sym c.tokens_of-tokens.ensures.count ∙ c.if-tokens-eq0.true)

pub token_text-requires : goal.token_text-requires
token_text-requires c =
    let some : 0 < tokens_at (part_of c.args.tree.now c.args.element) = omega (arith, c.tokens_of-tokens.ensures.count) in
    subst (HasToken c.args.tree.now) (sym c.tokens_of-tokens.ensures.first) (has_first c.args.tree.now c.args.element c.requires some)

pub returns : goal.returns
returns c =
    let some : 0 < tokens_at (part_of c.args.tree.now c.args.element) = omega (arith, c.tokens_of-tokens.ensures.count) in
    text_first c.args.tree.now c.args.element c.token_text.result.now c.requires some
    (c.token_text.ensures ∙ ap (λ t. (token_of c.args.tree.now t).text) c.tokens_of-tokens.ensures.first)
