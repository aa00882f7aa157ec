use Rattle.std.proofs.Common.{arith}
use Rattle.std.proofs.lemmas.Result.{err_from_is_err_and}
use Rattle.ide_ssr_rules.proofs.LexedSides.{place_at, lexed_few, lexed-all, lexed-refused}
use Rattle.ide_ssr_rules.proofs.tokens.lexed.Goals as goal

pub returns-in_err-raw-clause-value : goal.returns-in_err-raw-clause-value
returns-in_err-raw-clause-value c =
    let p = err_from_is_err_and c.from_residual.result c.from_residual.ensures.1 in
    rw (p.1, p.2) (lexed-refused _ _ c.in_err-raw.ensures.value c.in_err-raw.ensures.fault)

pub range-text-requires-clause-start_boundary : goal.range-text-requires-clause-start_boundary
range-text-requires-clause-start_boundary c = λ _.
    (place_at _ _ _ c.loop-token.token-index _ c.in_ok-raw.ensures.tiles c.as_slice-token-items.ensures.value (omega arith) c.token-item.is).starts

pub range-text-requires-clause-end_boundary : goal.range-text-requires-clause-end_boundary
range-text-requires-clause-end_boundary c =
    (place_at _ _ _ c.loop-token.token-index _ c.in_ok-raw.ensures.tiles c.as_slice-token-items.ensures.value (omega arith) c.token-item.is).ends

pub returns-clause-value : goal.returns-clause-value
returns-clause-value c = lexed-all _ _ _ _ _ c.in_ok-raw.ensures.value.0 c.in_ok-raw.ensures.value.1 c.as_slice-token-items.ensures.value c.loop-token.invariant (omega arith)

pub returns-clause-few : goal.returns-clause-few
returns-clause-few c = lexed_few _ _ _ _ _ c.in_ok-raw.ensures.value.0 c.in_ok-raw.ensures.tiles c.as_slice-token-items.ensures.value c.loop-token.invariant
