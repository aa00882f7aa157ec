-- What a run asks of its disk and sends, by what it is to do.
use Rattle.std.specs.Prelude.{◌≡◌, ℕ, ◌++◌, Bool, List, MatchOption, map, string_bytes, true, false}
use Rattle.cargo_ssr_options.specs.Command.{AreOptionsOf}
use Rattle.cargo_ssr_options.specs.RulesFile.{rules_in}
use Rattle.cargo_ssr_options.specs.declared.options.Mode.{Mode}
use Rattle.cargo_ssr_options.specs.declared.options.Mode.TheVariants.{Check, Debug, Diff, Search, Write}
use Rattle.cargo_ssr_options.specs.declared.options.Options.{Options}
use Rattle.cargo_ssr_program.specs.declared.program.Outcome.{Outcome}
use Rattle.cargo_ssr_program.specs.declared.program.Outcome.TheVariants.{Done, WouldChange}
use Rattle.cargo_ssr_program.specs.Planned.{IsPlanOf, IsShown, IsWritten, Task, is_colored}
use Rattle.ssr_changes.specs.Files.{AreSearched}
use Rattle.ssr_changes.specs.declared.planning.Planned.{Planned}
use Rattle.ssr_streams.specs.Streams.{Taken}
use Rattle.ssr_writing.specs.Disk.{Call}

-- only to write a disk is asked anything
abbrev pub IsAskedToWrite : Mode → List Call → List Call → Type 0
IsAskedToWrite Write old new = Unit {0}
IsAskedToWrite Diff old new = new ≡ old
IsAskedToWrite Check old new = new ≡ old
IsAskedToWrite (Search patterns) old new = new ≡ old
IsAskedToWrite (Debug snippet) old new = new ≡ old

-- the rules of a run: those among its words, and behind them those of a file's text, where the words name one
abbrev pub AreRulesOf : Options → List (List ℕ) → Type 0
AreRulesOf options rules =
    let among = map string_bytes options.rules.items in
    MatchOption options.rules_file (rules ≡ among) (λ file. (text : List ℕ) × (rules ≡ among ++ rules_in text))

-- what a run works on has its rules, and what is searched are its files, with what the language leaves out set aside
pub record IsTaskOf (options : Options) (task : Task) : Type 0 where
  pub rules : AreRulesOf options task.rules
  pub searched : AreSearched task.search.workspace.files task.files

-- what a disk was asked so far, and what was sent
pub record Sides : Type 0 where
  pub calls : List Call
  pub taken : Taken

-- what is answered where something would change
abbrev pub outcome_of : Bool → Outcome
outcome_of true = WouldChange
outcome_of false = Done

-- the status that tells it
abbrev pub outcome_status : Outcome → ℕ
outcome_status Done = 0
outcome_status WouldChange = 1

-- With diffs the plan is shown; with a check also, and it is answered whether it has a file; else it is written.
abbrev pub EndsWell : Mode → Task → (json colors : Bool) → Sides → Sides → Outcome → Type 0
EndsWell Diff task json colors old new outcome =
    (outcome ≡ Done) × (changes : Bool) × IsShown task json colors old.taken new.taken changes
EndsWell Check task json colors old new outcome =
    (changes : Bool) × (outcome ≡ outcome_of changes) × IsShown task json colors old.taken new.taken changes
EndsWell Write task json colors old new outcome =
    (outcome ≡ Done) × (plan : List Planned) × IsPlanOf task plan × IsWritten task.folder task.files plan old.calls new.calls
EndsWell (Search patterns) task json colors old new outcome = outcome ≡ Done
EndsWell (Debug snippet) task json colors old new outcome = outcome ≡ Done

-- What a run of the command with these words comes to. The words are wrong, or ask for the help or the version; or they say options,
-- by which it ends well, or not. What a failing run asked of the disk and sent is said only where it isn't to write.
pub data Ran (words : List (List ℕ)) (terminal : Bool) (old new : Sides) : ℕ → Type 0 where
  wrong_words : new.calls ≡ old.calls → Ran words terminal old new 2
  helped : new.calls ≡ old.calls → Ran words terminal old new 0
  no_help : new.calls ≡ old.calls → Ran words terminal old new 3
  ended : (options : Options) (task : Task) (outcome : Outcome) → AreOptionsOf words options → IsTaskOf options task
      → EndsWell options.mode task options.json (is_colored options.color terminal) old new outcome
      → IsAskedToWrite options.mode old.calls new.calls → Ran words terminal old new (outcome_status outcome)
  failed : (options : Options) → AreOptionsOf words options → IsAskedToWrite options.mode old.calls new.calls → Ran words terminal old new 3
