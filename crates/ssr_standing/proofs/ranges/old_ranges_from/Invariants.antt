use Rattle.std.proofs.Common.{◌≡◌, map, take}
use Rattle.ssr_base_trees.specs.Applied.{changes_of}
use Rattle.ssr_base_trees.specs.Origins.{span_of}
use Rattle.ssr_standing.specs.Ranges.{old_places}
use Rattle.ssr_standing.proofs.ranges.old_ranges_from.Given as goal

abbrev pub invariant-loop-range : goal.invariant-loop-range
invariant-loop-range l = map span_of l.ranges.items ≡ old_places l.at l.from (take l.range-index (changes_of l.changes))
