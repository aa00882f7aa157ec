use Rattle.std.proofs.Common.{◌≡◌, ◌++◌, ◌-◌, drop, length}
use Rattle.ssr_syntax_lex.specs.Private.Steps.{tokens_of}
use Rattle.ssr_syntax_lex.proofs.tokens.raw_tokens.Given as goal

abbrev pub invariant-loop-row : goal.invariant-loop-row
invariant-loop-row l = l.tokens.items ++ tokens_of l.total (drop l.number l.rows) ≡ tokens_of l.total l.rows

abbrev pub decreases-loop-row : goal.decreases-loop-row
decreases-loop-row l = length l.rows - l.number
