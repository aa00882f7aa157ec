-- What is given together, where options come of it.
use Rattle.std.proofs.Common.{◌≡◌, Option, None, Some, Result, Ok, IfOk, refl, subst}
use Rattle.cargo_ssr_options.specs.declared.given.Given.{Given}
use Rattle.cargo_ssr_options.specs.declared.given.Mismatch.{Mismatch}
use Rattle.cargo_ssr_options.specs.declared.options.Options.{Options}
use Rattle.cargo_ssr_options.specs.Given.{mismatch_of, options_of, refused_or, options_or_mismatch}

none_refused : (mismatch : Option Mismatch) (said options : Options) → Ok options ≡ refused_or mismatch said → (mismatch ≡ None) × (options ≡ said)
none_refused None said options is = (refl, cc)
none_refused (Some mismatch) said options is = cc

pub all_together : (given : Given) (options : Options) → Ok options ≡ options_or_mismatch given → (mismatch_of given ≡ None) × (options ≡ options_of given)
all_together given options is = none_refused (mismatch_of given) (options_of given) options is

-- what is known of an answer that is no refusal
pub told_so : {A E : Type 0} (P : A → Type 0) (told : Result A E) (answer : A) → told ≡ Ok answer → IfOk told P → P answer
told_so P told answer is known = subst (λ r. IfOk r P) is known
