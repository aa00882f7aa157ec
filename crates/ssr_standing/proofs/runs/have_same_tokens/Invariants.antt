use Rattle.std.proofs.Common.{◌≡◌, ◌+◌, ◌<◌, ℕ}
use Rattle.ssr_syntax_tree.specs.Places.{token_of}
use Rattle.ssr_standing.specs.Private.Runs.{mould_of}
use Rattle.ssr_standing.proofs.runs.have_same_tokens.Given as goal

abbrev pub invariant-loop-number : goal.invariant-loop-number
invariant-loop-number l = (k : ℕ) → k < l.number → mould_of (token_of l.one.tree.now (l.one.token + k)) ≡ mould_of (token_of l.two.tree.now (l.two.token + k))
