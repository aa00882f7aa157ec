use Rattle.std.proofs.Common.{◌≡◌, true, false}
use Rattle.ssr_names.specs.declared.definitions.Definition.{Definition}
use Rattle.ssr_names.specs.declared.definitions.Meaning.TheVariants as meanings
use Rattle.ssr_names.specs.Lookup.{Finds}
use Rattle.ssr_names.specs.Private.Answered.{IsSurelyAround}
use Rattle.ssr_names.proofs.LookingUp.{Climbs}
use Rattle.ssr_names.proofs.space.Space.outward.Given as goal

abbrev pub invariant-loop-step : goal.invariant-loop-step
invariant-loop-step l = record {
  means : (d : Definition) → l.found.meaning ≡ meanings.One d → Finds l.self l.question l.fn.«module» d;
  sure : l.found.is_sure ≡ true → IsSurelyAround l.self l.question l.fn.«module»;
  out : l.found.is_sure ≡ false → (d : Definition) → Finds l.self l.question l.at d → Finds l.self l.question l.fn.«module» d;
  surely : IsSurelyAround l.self l.question l.at → IsSurelyAround l.self l.question l.fn.«module»;
  climbs : Climbs l.self l.fn.«module» l.at l.step;
}
