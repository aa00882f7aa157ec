use Rattle.std.proofs.Common.{◌≡◌, drop, arith}
use Rattle.ssr_macro_arguments.specs.Forms.{lone_string_length}
use Rattle.ssr_macro_arguments.proofs.FormatStrings.{lone_length, string_gone, token_less}
use Rattle.ssr_macro_arguments.proofs.format_strings.without_string.Goals as goal

pub loop-preserved : goal.loop-preserved
loop-preserved c =
    let ts = c.args.arguments.items in
    let place = c.argument_place-place.result in
    let end : c.lone_string_length-end.result ≡ lone_string_length (drop place ts) =
    lone_length ts c.deref-2.result.now place c.lone_string_length-end.result c.deref-2.ensures.value c.lone_string_length-end.ensures.value in
    record {
      left =
          token_less ts c.loop.left.items c.remove.new.self.items place c.loop.counter
          (omega (arith, c.argument_place-place.ensures.within, c.deref.ensures.len)) c.loop.invariant.left c.remove.ensures.by_index.2;
      counted = omega (arith, end, c.loop-test.true);
    }

pub returns : goal.returns
returns c =
    let ts = c.args.arguments.items in
    let place = c.argument_place-place.result in
    string_gone ts c.deref.result.now c.loop.left.items c.args.before place c.loop.counter c.lone_string_length-end.result
    c.deref.ensures.value c.argument_place-place.ensures.place
    (lone_length ts c.deref-2.result.now place c.lone_string_length-end.result c.deref-2.ensures.value c.lone_string_length-end.ensures.value)
    (omega (arith, c.loop-test.false)) c.loop.invariant.counted c.loop.invariant.left
