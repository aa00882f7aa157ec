use Rattle.std.proofs.Common.{◌≡◌, ◌+◌, ◌-◌, length, drop, map}
use Rattle.ssr_base_trees.specs.Origins.{span_of}
use Rattle.ssr_standing.specs.Around.{passed}
use Rattle.ssr_standing.proofs.holes.passed_from.Given as goal

abbrev pub invariant-loop-place : goal.invariant-loop-place
invariant-loop-place l = l.count + passed (drop l.count (map span_of l.places)) l.byte ≡ passed (map span_of l.places) l.byte

abbrev pub decreases-loop-place : goal.decreases-loop-place
decreases-loop-place l = length l.places - l.count
