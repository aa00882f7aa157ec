-- What rules change in the files on the disk.
use Rattle.std.specs.Prelude.{ℕ, ◌≡◌, List, [], ◌∷◌, All, map, flat_map, length, slice_get, string_bytes}
use Rattle.std.specs.List.{enumerate_from}
use Rattle.std.specs.Option.{IsSomeAnd, option_map_or}
use Rattle.ssr_syntax_kinds.specs.declared.reach.Reach.TheVariants.{Whole}
use Rattle.ssr_base_trees.specs.Changes.{Change, FitsText, replaced}
use Rattle.ssr_base_trees.specs.Workspace.{Workspace}
use Rattle.ide_ssr_rewriting.specs.Clashes.{clash_of}
use Rattle.ssr_set_aside.specs.Sparing.{bounds, bounds_of, spared, told}
use Rattle.ssr_searching.specs.declared.searching.SearchError.{SearchError}
use Rattle.ssr_searching.specs.declared.searching.SearchError.TheVariants as errors
use Rattle.ssr_searching.specs.Searching.{Search, Changes, ComesToOnce, refuses, clashes, changes}
use Rattle.ssr_changes.specs.declared.changing.FileChange.{FileChange}
use Rattle.ssr_changes.specs.Files.{File}
use Rattle.ssr_standing.specs.Expansions.{stands_in}
use Rattle.ssr_standing.specs.Near.{stands_by}
use Rattle.ssr_changes.specs.Standing.{falling, standing}

-- What changes in a file: the changes of its text, the text with them made, and the ranges of those that are not made: of those that
-- touch the reach of a part set aside, and of those with which the file isn't read.
pub record Changed : Type 0 where
  pub file : ℕ
  pub edit : List Change
  pub new : List ℕ
  pub told : List (ℕ × ℕ)
  pub unread : List (ℕ × ℕ)

abbrev pub shown : FileChange → Changed
shown c = record { file = c.file; edit = c.edit; new = string_bytes c.new; told = map bounds c.told.items; unread = map bounds c.unread.items }

-- Of the changes of a file's searched text those are left that touch no reach of a part set aside, and of these the ones are made that
-- stand. The others are told.
abbrev pub changed : Workspace → ℕ → File → List Change → Changed
changed w n file cs =
    let left = spared file.reaches cs in
    record {
      file = n;
      edit = standing (stands_in w n) (stands_by w n) left;
      new = replaced file.text 0 (length file.text) (standing (stands_in w n) (stands_by w n) left);
      told = told file.reaches cs;
      unread = map bounds_of (falling (stands_in w n) (stands_by w n) left);
    }

-- what changes in a file, if a search has changes of it
abbrev pub change_in : Workspace → Changes → ℕ × File → List Changed
change_in w new numbered = option_map_or (λ cs. changed w numbered.0 numbered.1 cs ∷ []) (new numbered.0) []

-- what changes in the files, in their order
abbrev pub all_changed : Workspace → Changes → List File → List Changed
all_changed w new files = flat_map (change_in w new) (enumerate_from 0 files)

-- the search for the rules, read in all of Rust, comes to changes of the searched texts, and these are what they come to in the files
pub record AreChanges (s : Search) (rules : List (List ℕ)) (files : List File) (made : List Changed) : Type 0 where
  pub new : Changes
  pub comes : ComesToOnce Whole s rules (changes new)
  pub are : made ≡ all_changed s.workspace new files

-- why there are none: what the search comes to; want of memory says nothing
abbrev pub IsWhy : Search → List (List ℕ) → SearchError → Type 0
IsWhy s rules (errors.Refused message) = ComesToOnce Whole s rules (refuses (string_bytes message))
IsWhy s rules (errors.Clash earlier later) = ComesToOnce Whole s rules (clashes (clash_of (earlier, later)))
IsWhy s rules errors.Memory = Unit {0}

-- the file is there, and each change begins and ends between two characters of its text
abbrev pub FitsIn : List File → FileChange → Type 0
FitsIn files c = IsSomeAnd (slice_get files c.file) (λ file. All (FitsText file.text) c.edit)
