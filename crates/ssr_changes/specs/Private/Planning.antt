-- Private: the steps to a plan.
use Rattle.std.specs.Prelude.{◌≡◌, ◌≢◌, true, false, List, All, AllPairs, Contains, Option, Some, None, map}
use Rattle.ssr_changes.specs.declared.changing.FileChange.{FileChange}
use Rattle.ssr_changes.specs.declared.planning.Planned.{Planned}
use Rattle.ssr_changes.specs.declared.plan_error.PlanError.{PlanError}
use Rattle.ssr_changes.specs.declared.plan_error.PlanError.TheVariants as errors
use Rattle.ssr_changes.specs.Files.{File}
use Rattle.ssr_changes.specs.Naming.{is_below_target, is_inside}
use Rattle.ssr_changes.specs.Planning.{ComesTwice, HasDiff, giving_another, is_another, name_in, text_by, text_of}

-- what is planned of a change: nothing where its file keeps its text
abbrev pub IsPlannedOf : List File → FileChange → Option Planned → Type 0
IsPlannedOf files c None = is_another files c ≡ false
IsPlannedOf files c (Some p) = (is_another files c ≡ true) × (text_of p ≡ text_by c) × HasDiff files p

-- what is planned of changes, whatever the names
pub record ArePlanned (files : List File) (made : List FileChange) (plan : List Planned) : Type 0 where
  pub texts : map text_of plan ≡ map text_by (giving_another files made)
  pub diffs : All (HasDiff files) plan

-- the names are those of files that may be written, each once
pub record HaveNames (files : List File) (plan : List Planned) : Type 0 where
  pub inside : All (λ p. is_inside (name_in files p.file) ≡ true) plan
  pub beside_target : All (λ p. is_below_target (name_in files p.file) ≡ false) plan
  pub once : AllPairs (λ p q. name_in files p.file ≢ name_in files q.file) plan

-- what is wrong with a name
abbrev pub IsNameFault : List File → List Planned → PlanError → Type 0
IsNameFault files plan (errors.Outside n) = Contains (map (λ p. p.file) plan) n × (is_inside (name_in files n) ≡ false)
IsNameFault files plan (errors.BelowTarget n) = Contains (map (λ p. p.file) plan) n × (is_below_target (name_in files n) ≡ true)
IsNameFault files plan (errors.Twice n) = ComesTwice files (map (λ p. p.file) plan) n
IsNameFault files plan errors.Memory = Unit {0}
