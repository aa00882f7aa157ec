use Rattle.ssr_names.proofs.preparing.add_texts.Goals as goal

pub loop-text-preserved : goal.loop-text-preserved
loop-text-preserved c = λ text name had. c.in_ok-add.ensures.kept text name (c.loop-text.invariant text name had)
