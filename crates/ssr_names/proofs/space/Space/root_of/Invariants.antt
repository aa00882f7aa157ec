use Rattle.ssr_names_items.specs.declared.table.ModuleNo.{ModuleNo}
use Rattle.ssr_names.specs.Lookup.{IsWithin}
use Rattle.ssr_names.proofs.LookingUp.{Climbs}
use Rattle.ssr_names.proofs.space.Space.root_of.Given as goal

abbrev pub invariant-loop-step : goal.invariant-loop-step
invariant-loop-step l = record {
  inside : (outer : ModuleNo) → IsWithin l.self l.at outer → IsWithin l.self l.fn.«module» outer;
  climbs : Climbs l.self l.fn.«module» l.at l.step;
}
