use Rattle.std.proofs.Common.{◌+◌, ◌-◌, ap, sym, refl, ◌∙◌, arith, length-append}
use Rattle.ssr_syntax_kinds.specs.TokenRows.{row_with}
use Rattle.ssr_syntax_kinds.proofs.Zips.{zip2-push}
use Rattle.ssr_syntax_lex.specs.Tokens.{size}
use Rattle.ssr_syntax_lex.proofs.Cutting.{started, gone_to, looked_ahead}
use Rattle.ssr_syntax_lex.proofs.tokens.cut.Goals as goal

pub loop-cursor-init : goal.loop-cursor-init
loop-cursor-init c = record {
  cutting =
      rw (c.new-cursor.ensures, c.in_ok-kinds.ensures.items)
      (started c.args.text.now _ (c.len-total.ensures.bytes ∙ ap size c.new-cursor.ensures));
  room = record {
    beside = rw (c.in_ok-kinds.ensures.items, c.in_ok-starts.ensures.items) refl;
    kinds_fit = omega (arith, c.in_ok-kinds.ensures.len, c.in_ok-kinds.ensures.exact, c.len-total.ensures.bytes);
    starts_fit = omega (arith, c.in_ok-starts.ensures.len, c.in_ok-starts.ensures.exact, c.len-total.ensures.bytes);
  };
}

pub push_reserved-requires : goal.push_reserved-requires
push_reserved-requires c =
    let ahead = looked_ahead _ _ _ _ _ _ _ _ _ c.loop-cursor.invariant.cutting (sym c.is_empty.ensures ∙ c.loop-cursor-test.true) c.in-Ok.ensures in
    omega (arith, ahead.shorter, c.loop-cursor.invariant.room.kinds_fit)

pub push_reserved-requires-in-loop-cursor : goal.push_reserved-requires-in-loop-cursor
push_reserved-requires-in-loop-cursor c =
    let ahead = looked_ahead _ _ _ _ _ _ _ _ _ c.loop-cursor.invariant.cutting (sym c.is_empty.ensures ∙ c.loop-cursor-test.true) c.in-Ok.ensures in
    omega (arith, ahead.shorter, c.loop-cursor.invariant.room.starts_fit)

pub overflow_sub-start : goal.overflow_sub-start
overflow_sub-start c =
    let ahead = looked_ahead _ _ _ _ _ _ _ _ _ c.loop-cursor.invariant.cutting (sym c.is_empty.ensures ∙ c.loop-cursor-test.true) c.in-Ok.ensures in
    omega (arith, ahead.left, c.len.ensures.bytes)

pub dots_behind-dots-requires : goal.dots_behind-dots-requires
dots_behind-dots-requires c =
    let ahead = looked_ahead _ _ _ _ _ _ _ _ _ c.loop-cursor.invariant.cutting (sym c.is_empty.ensures ∙ c.loop-cursor-test.true) c.in-Ok.ensures in
    omega (arith, ahead.few, c.len-total.ensures.small)

pub loop-cursor-smaller : goal.loop-cursor-smaller
loop-cursor-smaller c =
    let ahead = looked_ahead _ _ _ _ _ _ _ _ _ c.loop-cursor.invariant.cutting (sym c.is_empty.ensures ∙ c.loop-cursor-test.true) c.in-Ok.ensures in
    ahead.less

pub loop-cursor-preserved : goal.loop-cursor-preserved
loop-cursor-preserved c =
    let before = c.loop-cursor.invariant in
    let ahead = looked_ahead _ _ _ _ _ _ _ _ _ before.cutting (sym c.is_empty.ensures ∙ c.loop-cursor-test.true) c.in-Ok.ensures in
    record {
      cutting =
          gone_to _ _ _ _ _ _ _ _ _ _ _ _ before.cutting (sym c.is_empty.ensures ∙ c.loop-cursor-test.true) c.in-Ok.ensures
          (rw (c.push_reserved.ensures.items, c.push_reserved-in-loop-cursor.ensures.items) (zip2-push row_with _ _ _ _ before.room.beside))
          (ap (λ n. c.len-total.result - n) c.len.ensures.bytes)
          c.dots_behind-dots.ensures;
      room = record {
        beside = rw (c.push_reserved.ensures.items, c.push_reserved-in-loop-cursor.ensures.items) (simp length-append (ap (λ n. n + 1) before.room.beside));
        kinds_fit = omega (arith, ahead.shorter, c.push_reserved.ensures.len, c.push_reserved.ensures.capacity, before.room.kinds_fit);
        starts_fit = omega (arith, ahead.shorter, c.push_reserved-in-loop-cursor.ensures.len, c.push_reserved-in-loop-cursor.ensures.capacity, before.room.starts_fit);
      };
    }
