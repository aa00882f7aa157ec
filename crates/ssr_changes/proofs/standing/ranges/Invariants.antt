use Rattle.std.proofs.Common.{◌≡◌, map, take}
use Rattle.ssr_base_trees.specs.Applied.{changes_of}
use Rattle.ssr_set_aside.specs.Sparing.{bounds, bounds_of}
use Rattle.ssr_changes.proofs.standing.ranges.Given as goal

abbrev pub invariant-loop-range : goal.invariant-loop-range
invariant-loop-range l = map bounds l.ranges.items ≡ map bounds_of (take l.range-index (changes_of l.range-items))
