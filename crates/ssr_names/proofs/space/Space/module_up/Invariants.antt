use Rattle.ssr_names.specs.Lookup.{IsUp}
use Rattle.ssr_names.proofs.space.Space.module_up.Given as goal

abbrev pub invariant-loop-step : goal.invariant-loop-step
invariant-loop-step l = IsUp l.self l.step l.fn.«module» l.at
