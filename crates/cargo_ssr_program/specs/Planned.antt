-- What rules change in the files that are searched, as it is shown and written.
use Rattle.std.specs.Prelude.{◌≡◌, ℕ, Bool, false, true, List, [], ◌++◌, map, flat_map, nat_lt, length, slice_get, string_bytes}
use Rattle.std.specs.Option.{option_map_or}
use Rattle.cargo_ssr_options.specs.declared.options.Color.{Color}
use Rattle.cargo_ssr_options.specs.declared.options.Color.TheVariants as colors
use Rattle.ssr_changes.specs.Changing.{AreChanges, shown}
use Rattle.ssr_changes.specs.Files.{File}
use Rattle.ssr_changes.specs.Planning.{IsPlan}
use Rattle.ssr_changes.specs.declared.changing.FileChange.{FileChange}
use Rattle.ssr_changes.specs.declared.planning.Planned.{Planned}
use Rattle.ssr_package.specs.Paths.{path_in}
use Rattle.ssr_searching.specs.Searching.{Search}
use Rattle.ssr_streams.specs.Streams.{Sent, Taken}
use Rattle.ssr_writing.specs.declared.writing.NewText.{NewText}
use Rattle.ssr_writing.specs.Disk.{Call, writes}

-- what a run works on: the search, the rules, and the files in their folder
pub record Task : Type 0 where
  pub search : Search
  pub rules : List (List ℕ)
  pub folder : List ℕ
  pub files : List File

-- the plan of what the rules change
pub record IsPlanOf (task : Task) (plan : List Planned) : Type 0 where
  pub made : List FileChange
  pub changes : AreChanges task.search task.rules task.files (map shown made)
  pub planned : IsPlan task.files made plan

-- the diffs, one behind the other
abbrev pub diffs_of : List Planned → List ℕ
diffs_of plan = flat_map (λ planned. string_bytes planned.diff) plan

-- diffs are shown in colours
abbrev pub is_colored : Color → Bool → Bool
is_colored colors.Auto terminal = terminal
is_colored colors.Always terminal = true
is_colored colors.Never terminal = false

-- The plan is shown, and it is answered whether it has a file. Diffs without colours are sent as they are; of those with colours, and
-- of matches as JSON, nothing is said.
pub record IsShown (task : Task) (json colors : Bool) (old new : Taken) (changes : Bool) : Type 0 where
  pub plan : List Planned
  pub planned : IsPlanOf task plan
  pub answered : changes ≡ nat_lt 0 (length plan)
  pub sent : json ≡ false → colors ≡ false → Sent old new (diffs_of plan) true

-- a file's path, its text and its new one
abbrev pub Text : Type 0
Text = List ℕ × List ℕ × List ℕ

abbrev pub text_of : NewText → Text
text_of file = (file.path.now, file.old.now, file.new.now)

-- of a file that is planned: its path in the folder
abbrev pub path_planned : List ℕ → List File → Planned → List ℕ
path_planned folder files planned = path_in folder (option_map_or (λ file. file.name) (slice_get files planned.file) [])

-- with its text, and that of the plan
abbrev pub text_planned : List ℕ → List File → Planned → Text
text_planned folder files planned =
    (path_planned folder files planned, option_map_or (λ file. file.text) (slice_get files planned.file) [], planned.new.now)

-- the plan of files in a folder is written: a disk is asked what writing its texts asks
pub record IsWritten (folder : List ℕ) (files : List File) (plan : List Planned) (old new : List Call) : Type 0 where
  pub texts : List NewText
  pub planned : map text_of texts ≡ map (text_planned folder files) plan
  pub asked : new ≡ old ++ writes texts
