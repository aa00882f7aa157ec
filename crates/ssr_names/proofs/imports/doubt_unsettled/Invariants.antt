use Rattle.std.proofs.Common.{◌≡◌, ◌<◌, ℕ, false}
use Rattle.ssr_names.specs.Settled.{IsSettledAt}
use Rattle.ssr_names.specs.Private.Settling.{IsAnswered}
use Rattle.ssr_names.proofs.imports.doubt_unsettled.Given as goal

abbrev pub invariant-loop-place : goal.invariant-loop-place
invariant-loop-place l = record {
  answered : IsAnswered l.fn.space l.space;
  settled : l.is_changed ≡ false → (l.space ≡ l.fn.space) × ((place : ℕ) → place < l.place → IsSettledAt l.fn.space place);
}
