use Rattle.std.proofs.Common.{◌≡◌, ◌≤◌, ◌+◌, ◌++◌, length, vec_len, vec_capacity}
use Rattle.ssr_syntax_rows.specs.SolidKinds.{solid_kinds}
use Rattle.ssr_syntax_rows.proofs.solid.solid_tokens.Given as goal

abbrev pub invariant-loop-first : goal.invariant-loop-first
invariant-loop-first l = record {
  solid : l.tokens.items ++ solid_kinds l.rest ≡ solid_kinds l.kinds;
  room : vec_len l.tokens + length l.rest ≤ vec_capacity l.tokens;
}

abbrev pub decreases-loop-first : goal.decreases-loop-first
decreases-loop-first l = length l.rest
