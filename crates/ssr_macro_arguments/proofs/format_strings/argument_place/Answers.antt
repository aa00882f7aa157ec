use Rattle.std.proofs.Common.{◌≡◌, ◌+◌, ◌-◌, ◌++◌, suc, take, drop, refl, sym, ap, ◌∙◌, arith, length-drop}
use Rattle.std.proofs.lemmas.List.{take_rest}
use Rattle.ssr_macro_arguments.specs.Forms.{first_length, without_string}
use Rattle.ssr_macro_arguments.proofs.FormatStrings.{argument_more}
use Rattle.ssr_macro_arguments.proofs.format_strings.argument_place.Goals as goal

pub loop-preserved : goal.loop-preserved
loop-preserved c =
    let ts = c.args.arguments.now in
    let place = c.loop.place in
    let left = c.args.before - (c.loop.counter + 1) in
    let more : c.args.before - c.loop.counter ≡ suc left = omega (arith, c.loop-test.true, c.loop.invariant.counted) in
    record {
      so_far =
          argument_more ts _ place c.first_length-place.result _ left (c.first_length-place.ensures.value ∙ ap first_length (take_rest ts place)) refl
          (ap (λ n. take place ts ++ without_string n (drop place ts)) (sym more) ∙ c.loop.invariant.so_far);
      within = omega (arith, c.first_length-place.ensures.within, length-drop place ts, c.loop.invariant.within);
      counted = omega (arith, c.loop-test.true, c.loop.invariant.counted);
    }
