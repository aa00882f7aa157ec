use Rattle.std.proofs.Common.{arith, refl, sym, ◌∙◌}
use Rattle.std.proofs.lemmas.Result.{err_from_is_err_and}
use Rattle.ide_ssr_rules.proofs.ReadingElements.{reads_all, reads_token, reads_name, reads_refused, shorter_left}
use Rattle.ide_ssr_rules.proofs.sides.elements.Goals as goal

pub loop-token-preserved-then-not-is_dollar : goal.loop-token-preserved-then-not-is_dollar
loop-token-preserved-then-not-is_dollar c =
    reads_token _ _ _ _ _ _ _ c.loop-token.invariant c.in-Some.ensures (sym c.is_dollar.ensures ∙ c.if-not-is_dollar.true) c.in_ok-push.ensures.items

pub loop-token-preserved : goal.loop-token-preserved
loop-token-preserved c =
    reads_name _ _ _ _ _ _ _ _ _ _ _ _ c.loop-token.invariant c.in-Some.ensures (sym c.is_dollar.ensures ∙ c.if-not-is_dollar.false)
    refl c.in_ok-placeholder.ensures c.name.ensures c.in_ok-names.ensures c.in_ok-push-2.ensures.items

pub loop-token-smaller : goal.loop-token-smaller
loop-token-smaller c = let less = shorter_left _ _ _ _ _ _ c.in-Some.ensures c.in_ok-placeholder.ensures in omega (arith, less)

pub returns-in_err-placeholder-clause-value : goal.returns-in_err-placeholder-clause-value
returns-in_err-placeholder-clause-value c =
    let p = err_from_is_err_and c.from_residual-in_err-placeholder.result c.from_residual-in_err-placeholder.ensures.1 in
    rw (p.1, p.2) (reads_refused _ _ _ _ _ _ _ _ c.loop-token.invariant c.in-Some.ensures (sym c.is_dollar.ensures ∙ c.if-not-is_dollar.false)
    refl c.in_err-placeholder.ensures)

pub returns-clause-value : goal.returns-clause-value
returns-clause-value c = reads_all _ _ _ _ c.loop-token.invariant c.in_default.ensures
