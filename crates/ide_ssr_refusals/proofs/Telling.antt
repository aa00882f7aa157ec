-- How an error that tells one reading's refusal tells that of a larger one.
use Rattle.std.proofs.Common.{◌≡◌, Result, Ok, Err, subst, sym, refl, ap}
use Rattle.ide_ssr_refusals.specs.declared.error.SsrError.{SsrError}
use Rattle.ide_ssr_refusals.specs.declared.error.SsrError.TheVariants as errors
use Rattle.ide_ssr_refusals.specs.Refusals.{Refusal, Tells, TellsOf, ◌>>=◌}

pub tells_memory : {A : Type 0} (reading : Result A Refusal) (error : SsrError) → error ≡ errors.Memory → TellsOf error reading
tells_memory {A = A} (Ok value) error is = let P : SsrError → Type 0 = λ e. TellsOf {A = A} e (Ok value) in subst P (sym is) tt
tells_memory {A = A} (Err refusal) error is = let P : SsrError → Type 0 = λ e. TellsOf {A = A} e (Err refusal) in subst P (sym is) tt

pub tells_refusal : {A : Type 0} (reading : Result A Refusal) (error : SsrError) (refusal : Refusal) → reading ≡ Err refusal → Tells error refusal → TellsOf error reading
tells_refusal {A = A} reading error refusal is tells = let P : Result A Refusal → Type 0 = λ r. TellsOf error r in subst P (sym is) tells

pub tells_first : {A B : Type 0} (first : Result A Refusal) (next : A → Result B Refusal) (error : SsrError) → TellsOf error first → TellsOf error (first >>= next)
tells_first (Ok value) next errors.Memory tells = tells_memory (next value) errors.Memory refl
tells_first (Ok value) next (errors.Message message) tells = absurd tells
tells_first (Err refusal) next error tells = tells

-- what holds of the reading that follows an accepted one holds of both together
pub after_ok : {A B : Type 0} (P : Result B Refusal → Type 0) (first : Result A Refusal) (next : A → Result B Refusal) (value : A) → first ≡ Ok value → P (next value) → P (first >>= next)
after_ok P first next value is holds = subst P (sym (ap (λ r. r >>= next) is)) holds

-- an accepted reading's first part was accepted too
pub record BothAccepted {A B : Type 0} (first : Result A Refusal) (next : A → Result B Refusal) (value : B) : Type 0 where
  pub found : A
  pub first_is : first ≡ Ok found
  pub next_is : next found ≡ Ok value

pub went : {A B : Type 0} (first : Result A Refusal) (next : A → Result B Refusal) (value : B) → (first >>= next) ≡ Ok value → BothAccepted first next value
went (Ok found) next value is = record { found = found; first_is = refl; next_is = is }
went (Err refusal) next value is = absurd cc

pub ok_same : {X : Type 0} (one other : X) → ◌≡◌ {A = Result X Refusal} (Ok one) (Ok other) → one ≡ other
ok_same one other h = cc
