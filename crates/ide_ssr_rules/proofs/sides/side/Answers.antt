use Rattle.std.proofs.Common.{arith, length, ◌≤◌, ◌<◌, ◌^◌}
use Rattle.std.proofs.lemmas.Result.{IfOk-weaker}
use Rattle.ide_ssr_rules.proofs.LexedSides.{side-tokens, side-fault}
use Rattle.ide_ssr_refusals.proofs.Shared.{tells_refusal}
use Rattle.ide_ssr_rules.proofs.sides.side.Goals as goal

pub returns-in-Ok : goal.returns-in-Ok
returns-in-Ok c = record {
  value = rw (side-tokens _ _ c.in-Ok.ensures.value) c.elements.ensures.value;
  few = IfOk-weaker c.elements.result (λ v. length v.items ≤ length c.in-Ok.tokens.items) (λ v. length v.items < 2 ^ 32) (λ v fewer. omega (arith, fewer, c.in-Ok.ensures.few)) c.elements.ensures.few;
}

pub returns-in_default : goal.returns-in_default
returns-in_default c = record { value = tells_refusal _ _ _ (side-fault _ _ (c.in-Err.ensures.value c.in_default.not-Memory)) c.told.ensures; few = tt }
