use Rattle.std.proofs.Common.{drop, map}
use Rattle.ssr_base_trees.specs.Applied.{changes_of}
use Rattle.ssr_base_trees.specs.Origins.{span_of}
use Rattle.ssr_set_aside.specs.SetAside.{AreCovered, BeginInOrder}
use Rattle.ssr_set_aside.proofs.keeping.cover.Given as goal

abbrev pub invariant-loop-range : goal.invariant-loop-range
invariant-loop-range l = record {
  covered : AreCovered (drop l.range-index (changes_of l.changes)) (map span_of l.left) → AreCovered (changes_of l.changes) (map span_of l.reaches);
  order : BeginInOrder l.from (map span_of l.left) → BeginInOrder 0 (map span_of l.reaches);
}
