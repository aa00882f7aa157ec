use Rattle.std.proofs.Common.{ℕ, ◌≡◌, ◌<◌, false, get_or, Bool}
use Rattle.ide_ssr_leading.proofs.find.are_unset.Given as goal

abbrev pub invariant-loop-flag : goal.invariant-loop-flag
invariant-loop-flag l = (k : ℕ) (d : Bool) → k < l.flag-index → get_or l.flags k d ≡ false
