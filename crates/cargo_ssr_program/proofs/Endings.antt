-- How runs end, by their mode.
use Rattle.std.proofs.Common.{◌≡◌, ◌⊎◌, ℕ, Bool, List, Result, Ok, Err, inl, inr, refl, subst, sym}
use Rattle.std.specs.Prelude.{IfOk}
use Rattle.cargo_ssr_options.specs.Command.{AreOptionsOf}
use Rattle.cargo_ssr_options.specs.declared.options.Options.{Options}
use Rattle.cargo_ssr_options.specs.declared.options.Mode.{Mode}
use Rattle.cargo_ssr_options.specs.declared.options.Mode.TheVariants.{Check, Debug, Diff, Search, Write}
use Rattle.cargo_ssr_program.specs.declared.program.Outcome.{Outcome}
use Rattle.cargo_ssr_program.specs.declared.program.Outcome.TheVariants.{Done, WouldChange}
use Rattle.cargo_ssr_program.specs.declared.failure.Failure.{Failure}
use Rattle.cargo_ssr_program.specs.Status.{status_of}
use Rattle.ssr_streams.specs.Streams.{Taken}
use Rattle.cargo_ssr_program.specs.Planned.{IsPlanOf, IsShown, IsWritten, Task, is_colored}
use Rattle.cargo_ssr_program.specs.Running.{EndsWell, IsAskedToWrite, IsTaskOf, Ran, Sides, ended, failed, helped, no_help, outcome_of, wrong_words}
use Rattle.ssr_changes.specs.declared.planning.Planned.{Planned}
use Rattle.ssr_writing.specs.Disk.{Call}

-- who asks nothing asks in no other mode
pub asked_nothing : (mode : Mode) (calls : List Call) → IsAskedToWrite mode calls calls
asked_nothing Write calls = tt
asked_nothing Diff calls = refl
asked_nothing Check calls = refl
asked_nothing (Search patterns) calls = refl
asked_nothing (Debug snippet) calls = refl

pub asked_to_write : (mode : Mode) (old new : List Call) → mode ≡ Write → IsAskedToWrite mode old new
asked_to_write mode old new is = subst (λ (mode : Mode). IsAskedToWrite mode old new) (sym is) tt

module _ (mode : Mode) (task : Task) (json colors : Bool) (old new : Sides) where
  pub ends_diff : (changes : Bool) → mode ≡ Diff → IsShown task json colors old.taken new.taken changes → EndsWell mode task json colors old new Done
  ends_diff changes is shown = subst (λ (mode : Mode). EndsWell mode task json colors old new Done) (sym is) (refl, changes, shown)

  pub ends_check : (changes : Bool) → mode ≡ Check → IsShown task json colors old.taken new.taken changes
      → EndsWell mode task json colors old new (outcome_of changes)
  ends_check changes is shown = subst (λ (mode : Mode). EndsWell mode task json colors old new (outcome_of changes)) (sym is) (changes, refl, shown)

  pub ends_write : (plan : List Planned) → mode ≡ Write → IsPlanOf task plan → IsWritten task.folder task.files plan old.calls new.calls
      → EndsWell mode task json colors old new Done
  ends_write plan is planned written = subst (λ (mode : Mode). EndsWell mode task json colors old new Done) (sym is) (refl, plan, planned, written)

-- words that say no options
pub ran_without : (words : List (List ℕ)) (terminal : Bool) (old new : Sides) (status : ℕ) → new.calls ≡ old.calls
    → (status ≡ 0) ⊎ ((status ≡ 2) ⊎ (status ≡ 3)) → Ran words terminal old new status
ran_without words terminal old new status same (inl is) = subst (Ran words terminal old new) (sym is) (helped same)
ran_without words terminal old new status same (inr (inl is)) = subst (Ran words terminal old new) (sym is) (wrong_words same)
ran_without words terminal old new status same (inr (inr is)) = subst (Ran words terminal old new) (sym is) (no_help same)

-- words that say options
by_options : (words : List (List ℕ)) (terminal : Bool) (options : Options) (old new : Sides) (result : Result Outcome Failure)
    → AreOptionsOf words options → IsAskedToWrite options.mode old.calls new.calls
    → IfOk result (λ outcome. (task : Task) × IsTaskOf options task × EndsWell options.mode task options.json (is_colored options.color terminal) old new outcome)
    → Ran words terminal old new (status_of result)
by_options words terminal options old new (Ok Done) said asked ends = ended options ends.0 Done said ends.1 ends.2 asked
by_options words terminal options old new (Ok WouldChange) said asked ends = ended options ends.0 WouldChange said ends.1 ends.2 asked
by_options words terminal options old new (Err failure) said asked ends = failed options said asked

-- what is told behind that sends nothing
pub ran_by_options : (words : List (List ℕ)) (terminal : Bool) (options : Options) (old : Sides) (calls : List Call) (taken taken' : Taken)
    (result : Result Outcome Failure) (status : ℕ) → AreOptionsOf words options → IsAskedToWrite options.mode old.calls calls
    → IfOk result (λ outcome. (task : Task) × IsTaskOf options task × EndsWell options.mode task options.json (is_colored options.color terminal) old (record { calls = calls; taken = taken }) outcome)
    → taken' ≡ taken → status ≡ status_of result → Ran words terminal old (record { calls = calls; taken = taken' }) status
ran_by_options words terminal options old calls taken taken' result status said asked ends same is =
    let P : Taken → Type 0 = λ t. Ran words terminal old (record { calls = calls; taken = t }) status in
    let Q : ℕ → Type 0 = λ s. Ran words terminal old (record { calls = calls; taken = taken }) s in
    subst P (sym same) (subst Q (sym is) (by_options words terminal options old (record { calls = calls; taken = taken }) result said asked ends))
