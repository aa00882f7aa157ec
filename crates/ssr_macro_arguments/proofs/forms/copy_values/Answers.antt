use Rattle.std.proofs.Common.{◌∙◌, ◌++◌, length, ap, arith, length-drop, if◌then◌else◌}
use Rattle.ssr_macro_arguments.specs.declared.arguments.ArgumentToken.{ArgumentToken}
use Rattle.ssr_macro_arguments.specs.Private.Tokens.{written}
use Rattle.ssr_macro_arguments.specs.Arguments.{pieces}
use Rattle.ssr_macro_arguments.specs.Forms.{name_length, values_from}
use Rattle.ssr_macro_arguments.proofs.Values.{values_from-drop, value_step}
use Rattle.ssr_macro_arguments.proofs.forms.copy_values.Goals as goal

pub loop-token-init : goal.loop-token-init
loop-token-init c = record {
  so_far =
      ap (λ r. written c.args.writer.now ++ pieces (values_from 0 0 r)) c.behind_name-rest.ensures
      ∙ ap (λ vs. written c.args.writer.now ++ pieces vs) (values_from-drop (name_length c.args.arguments.now) 0 c.args.arguments.now);
  shallow = omega (arith, ap length c.behind_name-rest.ensures, length-drop {A = ArgumentToken});
}

pub loop-token-preserved : goal.loop-token-preserved
loop-token-preserved c = record {
  so_far =
      value_step _ _ _ _ c.in-Some.others.now _ c.in-Some.token.now _ _ _ c.in-Some.ensures.cases.0 c.in_ok-copy.ensures
      c.is_outer-is_comma.ensures c.depth_behind-depth.ensures.value c.behind-rest.ensures c.loop-token.invariant.so_far;
  shallow =
      omega (
        arith,
        ap length c.behind-rest.ensures,
        length-drop (if c.is_outer-is_comma.result then name_length c.in-Some.others.now else 0) c.in-Some.others.now,
        c.in-Some.ensures.cases.1,
        c.depth_behind-depth.ensures.near,
        c.loop-token.invariant.shallow,
      );
}
