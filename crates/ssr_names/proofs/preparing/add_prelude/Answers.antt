use Rattle.ssr_names.proofs.preparing.add_prelude.Goals as goal

pub loop-known-preserved : goal.loop-known-preserved
loop-known-preserved c = λ text name had.
    c.in_ok-add-3.ensures.kept text name
    (c.in_ok-add-2.ensures.kept text name (c.in_ok-add.ensures.kept text name (c.loop-known.invariant text name had)))
