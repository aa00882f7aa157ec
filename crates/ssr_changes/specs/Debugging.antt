-- The debug list of a snippet in all files.
use Rattle.std.specs.Prelude.{ℕ, ◌≡◌, ◌+◌, Bool, List, [], ◌++◌, Option, is_none, length, map, slice_index}
use Rattle.std.specs.Option.{option_map}
use Rattle.ssr_base_trees.specs.Workspace.{FileSpan, Workspace, file_span_of, original_range, trees}
use Rattle.ide_ssr_debugging.specs.Debugging.{AreEntries, Entry}
use Rattle.ide_ssr.specs.Finder.{Finder}
use Rattle.ssr_searching.specs.Searching.{Search}
use Rattle.ssr_changes.specs.declared.debugging.DebugEntry.{DebugEntry}
use Rattle.ssr_changes.specs.declared.finding.Form.TheVariants as forms
use Rattle.ssr_changes.specs.Finding.{IsFinderFor, owners_of, reading_of}

-- what is told of a rule at a node: where the node comes from, the place of the rule, and whether it matches
pub record Told : Type 0 where
  pub range : Option FileSpan
  pub rule : ℕ
  pub matched : Bool

abbrev pub told_by : DebugEntry → Told
told_by entry = record { range = option_map file_span_of entry.range; rule = entry.rule; matched = is_none entry.reason }

-- what is told of an entry, where the kinds of the finder come from rules of these numbers
abbrev pub told_of : List ℕ → Workspace → Entry → Told
told_of owners w e = record { range = original_range (trees w) e.node; rule = slice_index owners e.rule; matched = e.matched }

-- what is told of the files up to before this one, file by file
pub data AreToldUpTo (finder : Finder) (owners : List ℕ) (snippet : List ℕ) : ℕ → List Told → Type 0 where
  none : AreToldUpTo finder owners snippet 0 []
  more : (n : ℕ) (so_far : List Told) (entries : List Entry) → AreToldUpTo finder owners snippet n so_far
      → AreEntries finder.workspace finder.meanings finder.rules (record { 0 = n }) snippet entries
      → AreToldUpTo finder owners snippet (n + 1) (so_far ++ map (told_of owners finder.workspace) entries)

-- what is told of all files, by a finder of the rules
pub record AreTold (s : Search) (rules : List (List ℕ)) (snippet : List ℕ) (told : List Told) : Type 0 where
  pub finder : Finder
  pub is_finder : IsFinderFor forms.Rules s rules finder
  pub are : AreToldUpTo finder (owners_of (reading_of forms.Rules) rules) snippet (length finder.workspace.files) told
