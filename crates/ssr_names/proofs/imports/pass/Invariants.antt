use Rattle.std.proofs.Common.{◌≡◌, ◌<◌, ℕ, false}
use Rattle.ssr_names.specs.Settled.{IsSettledAt}
use Rattle.ssr_names.specs.Private.Settling.{IsAnswered, turned}
use Rattle.ssr_names.proofs.imports.pass.Given as goal

abbrev pub invariant-loop-step : goal.invariant-loop-step
invariant-loop-step l = record {
  answered : IsAnswered l.fn.space l.space;
  settled : l.is_changed ≡ false → (l.space ≡ l.fn.space) × ((step : ℕ) → step < l.step → IsSettledAt l.fn.space (turned l.is_backward l.count step));
}
