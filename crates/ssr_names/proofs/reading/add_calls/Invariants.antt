use Rattle.std.proofs.Common.{◌≡◌}
use Rattle.ssr_names.proofs.reading.add_calls.Given as goal

abbrev pub invariant-loop-call : goal.invariant-loop-call
invariant-loop-call l = l.rows.known ≡ l.fn.rows.known
