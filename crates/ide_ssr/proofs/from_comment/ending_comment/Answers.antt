use Rattle.std.proofs.Common.{◌+◌, ◌-◌, ap, sym, ◌∙◌}
use Rattle.ssr_syntax_tree.specs.Places.{offset_of}
use Rattle.ide_ssr_search.proofs.Shared.{one_token}
use Rattle.ide_ssr.proofs.from_comment.ending_comment.Goals as goal

pub returns-else-token_range-offset-clause-none : goal.returns-else-token_range-offset-clause-none
returns-else-token_range-offset-clause-none c = λ u is ends.
    let tree = c.args.tree.now in
    let same = one_token tree u c.in_ok-token.token.0 (c.args.offset - 1) ends.2 c.in_ok-token.ensures.some.1.1 in
    c.if-token_range-offset.false (c.token_range.ensures.end ∙ ap (λ t. offset_of tree (1 + t)) (sym same) ∙ ends.3)
