use Rattle.std.proofs.Common.{drop}
use Rattle.std.specs.List.{All}
use Rattle.ssr_base_trees.specs.Changes.{ChangesInOrder}
use Rattle.ssr_base_trees.specs.Applied.{changes_of}
use Rattle.ssr_set_aside.specs.SetAside.{KeepsLength}
use Rattle.ssr_set_aside.proofs.keeping.keep_places.Given as goal

abbrev pub invariant-loop-range : goal.invariant-loop-range
invariant-loop-range l = record {
  order : ChangesInOrder l.end (drop l.range-index (changes_of l.changes)) → ChangesInOrder 0 (changes_of l.changes);
  lengths : All KeepsLength (drop l.range-index (changes_of l.changes)) → All KeepsLength (changes_of l.changes);
}
