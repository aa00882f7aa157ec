use Rattle.std.proofs.Common.{◌≡◌, ℕ, ◌≤◌, ◌++◌, All, map}
use Rattle.ssr_searching.specs.Searching.{changes_in}
use Rattle.ssr_changes.specs.Changing.{FitsIn, all_changed, shown}
use Rattle.ssr_changes.proofs.InFiles.{left_from}
use Rattle.ssr_changes.proofs.changing.all_changed.Given as goal

abbrev pub invariant-loop-file : goal.invariant-loop-file
invariant-loop-file l = record {
  same : (k : ℕ) → l.file ≤ k → changes_in l.left k ≡ changes_in l.fn.edits k;
  made : map shown l.made.items ++ left_from l.files.workspace (changes_in l.fn.edits) l.files.files l.file ≡ all_changed l.files.workspace (changes_in l.fn.edits) l.files.files;
  fit : All (FitsIn l.files.files) l.made.items;
}
