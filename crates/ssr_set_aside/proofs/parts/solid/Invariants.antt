use Rattle.std.proofs.Common.{◌≡◌, ◌++◌, length}
use Rattle.ssr_set_aside.specs.Parts as spec
use Rattle.ssr_set_aside.proofs.parts.solid.Given as goal

-- what was kept, and what is kept of the rest, is what is kept of all
abbrev pub invariant-loop-first : goal.invariant-loop-first
invariant-loop-first l = l.kept.items ++ spec.solid l.rest ≡ spec.solid l.tokens

abbrev pub decreases-loop-first : goal.decreases-loop-first
decreases-loop-first l = length l.rest
