use Rattle.ssr_names.proofs.reading.add_printed.Goals as goal

pub loop-def-preserved : goal.loop-def-preserved
loop-def-preserved c = λ all. c.in_ok-add_reached.ensures (c.loop-def.invariant all)
