use Rattle.std.proofs.Common.{◌≡◌, length}
use Rattle.ide_ssr.proofs.made.none_made.Given as goal

abbrev pub invariant-loop : goal.invariant-loop
invariant-loop l = length l.made.items ≡ l.counter
