use Rattle.std.proofs.Common.{◌≡◌, drop}
use Rattle.ssr_standing.specs.Code.{end_of_last}
use Rattle.ssr_standing.proofs.code.end_of_last.Given as goal

abbrev pub invariant-loop-token : goal.invariant-loop-token
invariant-loop-token l = end_of_last l.end (drop l.token-index l.tokens) ≡ end_of_last 0 l.tokens
