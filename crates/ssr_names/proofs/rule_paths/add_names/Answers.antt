use Rattle.ssr_names.proofs.rule_paths.add_names.Goals as goal

pub loop-segment-preserved : goal.loop-segment-preserved
loop-segment-preserved c = λ text name had. c.in_ok-add.ensures.kept text name (c.loop-segment.invariant text name had)
