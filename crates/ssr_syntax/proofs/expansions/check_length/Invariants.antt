use Rattle.std.proofs.Common.{◌≡◌, ◌+◌, ◌^◌, length}
use Rattle.ssr_syntax.specs.Expansions.{expansion_text}
use Rattle.ssr_syntax.proofs.expansions.check_length.Given as goal

-- what may still come, and what is still to come
abbrev pub invariant-loop-token : goal.invariant-loop-token
invariant-loop-token l = l.left + length (expansion_text l.tokens) + 1 ≡ 2 ^ 32 + length (expansion_text l.rest)

abbrev pub decreases-loop-token : goal.decreases-loop-token
decreases-loop-token l = length l.rest
