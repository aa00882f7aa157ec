use Rattle.std.proofs.Common.{◌≡◌, ℕ, drop}
use Rattle.std.specs.Prelude.{map, take}
use Rattle.ssr_base_trees.specs.Changes.{ChangesInOrder}
use Rattle.ssr_base_trees.specs.Applied.{changes_of}
use Rattle.ssr_base_trees.specs.Origins.{span_of}
use Rattle.ssr_set_aside.specs.Sparing.{spared, told, bounds}
use Rattle.ssr_set_aside.proofs.Left.{IsLeft}
use Rattle.ssr_set_aside.proofs.sparing.spare.Given as goal

abbrev pub invariant-loop-range : goal.invariant-loop-range
invariant-loop-range l = record {
  made : changes_of l.made.items ≡ spared l.reaches (take l.range-index (changes_of l.range-items));
  told : map bounds l.told.items ≡ told l.reaches (take l.range-index (changes_of l.range-items));
  place : (place : ℕ) × ChangesInOrder place (drop l.range-index (changes_of l.range-items)) × IsLeft l.reaches (map span_of l.left) place;
}
