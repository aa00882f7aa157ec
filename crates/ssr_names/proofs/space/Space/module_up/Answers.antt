use Rattle.ssr_names.specs.Lookup.{up_none, up_one}
use Rattle.ssr_names.proofs.space.Space.module_up.Goals as goal

pub loop-step-init : goal.loop-step-init
loop-step-init c = up_none c.args.«module»

pub loop-step-preserved : goal.loop-step-preserved
loop-step-preserved c = up_one c.loop-step.step c.args.«module» c.loop-step.at c.in_ok-at.at c.loop-step.invariant c.in_ok-at.ensures
