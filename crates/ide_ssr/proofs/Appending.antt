-- What holds of all rules that were there and of all that come holds of all that are there then.
use Rattle.std.proofs.Common.{◌≡◌, ◌++◌, Bool, true, false, List, All, subst, sym}
use Rattle.std.specs.Prelude.{if◌then◌else◌}
use Rattle.std.proofs.lemmas.List.Elements.{All-append}

pub all_appended : {A : Type 0} (P : A → Type 0) (old more new : List A) (went : Bool) → new ≡ (if went then old ++ more else old)
    → All P old → All P more → All P new
all_appended P old more new true is there comes = subst (All P) (sym is) (All-append P old more there comes)
all_appended P old more new false is there comes = subst (All P) (sym is) there
