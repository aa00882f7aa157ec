use Rattle.ssr_names_items.specs.declared.table.ModuleNo.{ModuleNo}
use Rattle.ssr_names.specs.Lookup.{IsInBlocks}
use Rattle.ssr_names.proofs.LookingUp.{Climbs}
use Rattle.ssr_names.proofs.space.Space.plain_module.Given as goal

abbrev pub invariant-loop-step : goal.invariant-loop-step
invariant-loop-step l = record {
  inside : (plain : ModuleNo) → IsInBlocks l.self l.at plain → IsInBlocks l.self l.fn.«module» plain;
  climbs : Climbs l.self l.fn.«module» l.at l.step;
}
