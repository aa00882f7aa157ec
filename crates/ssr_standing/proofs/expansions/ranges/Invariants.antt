use Rattle.std.proofs.Common.{◌≡◌, map, take}
use Rattle.ssr_base_trees.specs.Origins.{span_of}
use Rattle.ssr_standing.specs.Private.Spelling.{place_of}
use Rattle.ssr_standing.proofs.expansions.ranges.Given as goal

abbrev pub invariant-loop-place : goal.invariant-loop-place
invariant-loop-place l = map span_of l.ranges.items ≡ map place_of (take l.place-index l.places)
