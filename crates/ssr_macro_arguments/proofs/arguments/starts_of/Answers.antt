use Rattle.std.proofs.Common.{◌+◌, arith}
use Rattle.ssr_macro_arguments.proofs.Between.{start_next, start_more, start_within}
use Rattle.ssr_macro_arguments.proofs.arguments.starts_of.Goals as goal

pub overflow_add-start : goal.overflow_add-start
overflow_add-start c =
    omega (
      arith,
      c.loop-token.invariant.start,
      start_more c.args.tokens.now c.loop-token.token-index _ (omega arith) c.token-item.is,
      start_within c.args.tokens.now (c.loop-token.token-index + 1),
    )

pub loop-token-preserved : goal.loop-token-preserved
loop-token-preserved c = record {
  starts =
      start_next c.args.tokens.now _ _ c.loop-token.token-index _ c.in_ok-push.ensures.items c.loop-token.invariant.start
      c.loop-token.invariant.starts;
  start =
      omega (
        arith,
        c.loop-token.invariant.start,
        start_more c.args.tokens.now c.loop-token.token-index c.token-item.result (omega arith) c.token-item.is,
      );
}
