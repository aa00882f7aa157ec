use Rattle.std.proofs.Common.{ap, sym, ◌∙◌, refl, arith, subst}
use Rattle.std.specs.Prelude.{ℕ, IfNone}
use Rattle.std.proofs.lemmas.Bool.{false≢true}
use Rattle.ssr_syntax_tree.specs.Places.{token_of}
use Rattle.ide_ssr_search.specs.Positions.{HoldsAt}
use Rattle.ide_ssr_search.proofs.Shared.{one_token, byte_within}
use Rattle.ide_ssr.specs.FromComment.{IsComment}
use Rattle.ide_ssr.proofs.from_comment.comment_over.Goals as goal

pub returns-in_err-token-clause-none : goal.returns-in_err-token-clause-none
returns-in_err-token-clause-none c =
    subst (λ found. IfNone found ((u : ℕ) → IsComment c.args.tree.now u → ¬ HoldsAt c.args.tree.now c.args.offset u)) (sym c.from_residual.ensures)
    (λ u is at. omega (arith, byte_within c.args.tree.now u c.args.offset at.1, c.in_err-token.ensures.none.0 refl))

pub returns-else-is-clause-none : goal.returns-else-is-clause-none
returns-else-is-clause-none c = λ u is at.
    let tree = c.args.tree.now in
    let same = one_token tree u c.in_ok-token.token.0 c.args.offset at.1 c.in_ok-token.ensures.holds in
    false≢true (c.if-is.ensures.decides.1 (c.token_kind.ensures ∙ ap (λ t. (token_of tree t).kind) (sym same) ∙ is.1))
