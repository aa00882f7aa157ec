use Rattle.std.proofs.Common.{◌≡◌, length}
use Rattle.ide_ssr_rewriting.proofs.editing.none_known.Given as goal

abbrev pub invariant-loop : goal.invariant-loop
invariant-loop l = length l.texts.items ≡ l.counter
