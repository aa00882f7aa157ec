use Rattle.std.proofs.Common.{◌≡◌, [], false, map, take}
use Rattle.ssr_base_trees.specs.Origins.{span_of}
use Rattle.ssr_set_aside.specs.Sparing.{touches_aside}
use Rattle.ssr_changes.proofs.matching.touches.Given as goal

abbrev pub invariant-loop-reach : goal.invariant-loop-reach
invariant-loop-reach l = touches_aside (map span_of (take l.reach-index l.reach-items)) (record { start = l.range.start; end = l.range.end; text = [] }) ≡ false
