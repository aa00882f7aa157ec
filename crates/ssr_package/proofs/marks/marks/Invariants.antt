use Rattle.std.proofs.Common.{◌≡◌, ◌++◌, length}
use Rattle.ssr_package.specs.Marks as spec
use Rattle.ssr_package.proofs.marks.marks.Given as goal

-- what was found, and what the rest says, is what all tokens say
abbrev pub invariant-loop-first : goal.invariant-loop-first
invariant-loop-first l = l.marks.items ++ spec.marks l.rest ≡ spec.marks l.tokens

abbrev pub decreases-loop-first : goal.decreases-loop-first
decreases-loop-first l = length l.rest
