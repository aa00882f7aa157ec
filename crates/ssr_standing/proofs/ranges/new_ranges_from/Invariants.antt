use Rattle.std.proofs.Common.{◌≡◌, ◌++◌, drop, map}
use Rattle.std.specs.Prelude.{All}
use Rattle.ssr_base_trees.specs.Applied.{changes_of}
use Rattle.ssr_base_trees.specs.Origins.{span_of}
use Rattle.ssr_standing.specs.Ranges.{IsShort, new_places}
use Rattle.ssr_standing.proofs.ranges.new_ranges_from.Given as goal

abbrev pub invariant-loop-range : goal.invariant-loop-range
invariant-loop-range l = record {
  so_far : map span_of l.ranges.items ++ new_places l.at l.from (drop l.range-index (changes_of l.changes))
      ≡ new_places l.fn.at l.fn.from (changes_of l.changes);
  short : All IsShort (new_places l.at l.from (drop l.range-index (changes_of l.changes)));
}
