use Rattle.ssr_macro_arguments.proofs.expanding.add_nested.Goals as goal

pub loop-next-preserved : goal.loop-next-preserved
loop-next-preserved c = record {
  made = λ trees count are. c.in_ok-add_below.ensures.made trees count (c.loop-next.invariant.made trees count are);
  few = c.in_ok-add_below.ensures.few;
}
