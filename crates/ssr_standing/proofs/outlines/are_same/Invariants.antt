use Rattle.std.proofs.Common.{◌≡◌, length}
use Rattle.std.specs.Prelude.{◌↔◌}
use Rattle.ssr_standing.specs.Private.Outlines.{left_of}
use Rattle.ssr_standing.proofs.outlines.are_same.Given as goal

abbrev pub invariant-loop-one : goal.invariant-loop-one
invariant-loop-one l = (left_of l.fn.one ≡ left_of l.fn.two) ↔ (left_of l.one ≡ left_of l.two)

abbrev pub decreases-loop-one : goal.decreases-loop-one
decreases-loop-one l = length (left_of l.one)
