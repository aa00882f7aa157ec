use Rattle.std.proofs.Common.{◌+◌, ◌-◌, ap, sym, ◌∙◌, refl, arith, subst}
use Rattle.std.specs.Prelude.{ℕ, IfNone}
use Rattle.ssr_syntax_tree.specs.Places.{offset_of}
use Rattle.ide_ssr_search.specs.Positions.{EndsAt}
use Rattle.ide_ssr_search.proofs.PositionNodes.{one_token, byte_within}
use Rattle.ide_ssr_search.proofs.positions.ending_token.Goals as goal

pub returns-in_err-token-clause-none : goal.returns-in_err-token-clause-none
returns-in_err-token-clause-none c =
    subst (λ found. IfNone found ((t : ℕ) → ¬ EndsAt c.args.tree.now c.args.offset t)) (sym c.from_residual.ensures)
    (λ t ends. omega (arith, byte_within c.args.tree.now t (c.args.offset - 1) ends.2, c.in_err-token.ensures.none.0 refl))

pub returns-else-token_range-offset-clause-none : goal.returns-else-token_range-offset-clause-none
returns-else-token_range-offset-clause-none c = λ t ends.
    let tree = c.args.tree.now in
    let same = one_token tree t c.in_ok-token.token.0 (c.args.offset - 1) ends.2 c.in_ok-token.ensures.holds in
    c.if-token_range-offset.false (c.token_range.ensures.end ∙ ap (λ t. offset_of tree (1 + t)) (sym same) ∙ ends.3)
