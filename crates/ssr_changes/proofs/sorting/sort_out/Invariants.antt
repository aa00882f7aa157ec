use Rattle.std.proofs.Common.{◌≤◌, All, length}
use Rattle.std.specs.Vec.Iter.{into_iter_items}
use Rattle.ssr_syntax_kinds.specs.declared.reach.Reach.TheVariants.{Whole}
use Rattle.ssr_syntax.specs.Reading.{IsReadOf}
use Rattle.ssr_base_trees.specs.Built.{most_trees}
use Rattle.ssr_changes.specs.Files.{AreSearched}
use Rattle.ssr_changes.proofs.Sorted.{SortedSoFar}
use Rattle.ssr_changes.proofs.sorting.sort_out.Given as goal

abbrev pub invariant-loop-file : goal.invariant-loop-file
invariant-loop-file l = record {
  sorted : SortedSoFar l.fn.files.items (into_iter_items l.file-iterator) l.sorted;
  made : AreSearched l.sorted.trees.items l.sorted.files.items;
  read : All (IsReadOf Whole) l.sorted.trees.items;
  few : length l.sorted.files.items ≤ most_trees;
}
