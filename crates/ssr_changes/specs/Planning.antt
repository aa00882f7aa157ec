-- Which files get new texts, and what is shown of that.
use Rattle.std.specs.Prelude.{ℕ, ◌≡◌, ◌≢◌, Bool, true, false, not, List, [], ◌∷◌, ◌++◌, All, AllPairs, Contains, map, filter, slice_get, string_bytes}
use Rattle.std.specs.Option.{IsSomeAnd, option_map_or}
use Rattle.std.specs.Str.{bytes_eq}
use Rattle.ssr_diff.specs.Patch.{IsDiff}
use Rattle.ssr_changes.specs.declared.changing.FileChange.{FileChange}
use Rattle.ssr_changes.specs.declared.planning.Planned.{Planned}
use Rattle.ssr_changes.specs.declared.plan_error.PlanError.{PlanError}
use Rattle.ssr_changes.specs.declared.plan_error.PlanError.TheVariants as errors
use Rattle.ssr_changes.specs.Files.{File}
use Rattle.ssr_changes.specs.Naming.{is_below_target, is_inside, normal}

-- the normal name of a file
abbrev pub name_in : List File → ℕ → List ℕ
name_in files n = option_map_or (λ file. normal file.name) (slice_get files n) []

-- a change gives its file another text
abbrev pub is_another : List File → FileChange → Bool
is_another files c = option_map_or (λ file. not (bytes_eq (string_bytes c.new) file.text)) (slice_get files c.file) false

-- the changes that do
abbrev pub giving_another : List File → List FileChange → List FileChange
giving_another files made = filter (is_another files) made

-- a file's number and its new text
abbrev pub text_by : FileChange → ℕ × List ℕ
text_by c = (c.file, string_bytes c.new)

abbrev pub text_of : Planned → ℕ × List ℕ
text_of p = (p.file, p.new.now)

-- the diff is that of the file's text and the new one, under the file's normal name
abbrev pub HasDiff : List File → Planned → Type 0
HasDiff files p = IsSomeAnd (slice_get files p.file) (λ file. IsDiff (normal file.name) file.text p.new.now (string_bytes p.diff))

-- The plan of changes: in their order, the file and the new text of each that gives its file another one, with the diff. The normal
-- names lead into the folder and not below `target`, and no two are the same.
pub record IsPlan (files : List File) (made : List FileChange) (plan : List Planned) : Type 0 where
  pub texts : map text_of plan ≡ map text_by (giving_another files made)
  pub diffs : All (HasDiff files) plan
  pub inside : All (λ p. is_inside (name_in files p.file) ≡ true) plan
  pub beside_target : All (λ p. is_below_target (name_in files p.file) ≡ false) plan
  pub once : AllPairs (λ p q. name_in files p.file ≢ name_in files q.file) plan

-- the files that get another text
abbrev pub numbers : List File → List FileChange → List ℕ
numbers files made = map (λ c. c.file) (giving_another files made)

-- in front of a number stands that of a file with the same normal name
abbrev pub ComesTwice : List File → List ℕ → ℕ → Type 0
ComesTwice files ns n = (front behind : List ℕ) × (ns ≡ front ++ n ∷ behind) × Contains (map (name_in files) front) (name_in files n)

-- why there is no plan: what is wrong with a file that gets another text; want of memory says nothing
abbrev pub IsFault : List File → List FileChange → PlanError → Type 0
IsFault files made (errors.Outside n) = Contains (numbers files made) n × (is_inside (name_in files n) ≡ false)
IsFault files made (errors.BelowTarget n) = Contains (numbers files made) n × (is_below_target (name_in files n) ≡ true)
IsFault files made (errors.Twice n) = ComesTwice files (numbers files made) n
IsFault files made errors.Memory = Unit {0}
