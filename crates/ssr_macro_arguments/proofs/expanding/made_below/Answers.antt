use Rattle.std.proofs.Common.{arith}
use Rattle.ssr_macro_arguments.proofs.expanding.made_below.Goals as goal

pub loop-node-preserved : goal.loop-node-preserved
loop-node-preserved c = record {
  made = λ text spelled. c.in_ok-add_call_below.ensures.made text spelled (c.loop-node.invariant.made text spelled);
  few = omega (arith, c.in_ok-add_call_below.ensures.few);
}
