use Rattle.ssr_names.proofs.preparing.add_second_names.Goals as goal

pub loop-second-preserved : goal.loop-second-preserved
loop-second-preserved c = λ text name had.
    c.in_ok-add-4.ensures.kept text name
    (c.in_ok-add-3.ensures.kept text name
    (c.in_ok-add-2.ensures.kept text name (c.in_ok-add.ensures.kept text name (c.loop-second.invariant text name had))))
