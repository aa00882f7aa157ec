-- A test of several strings, where each is asked for after the ones in front of it failed.
use Rattle.std.proofs.Common.{◌≡◌, Bool, true, false, ◌||◌}

pub first_passes : (r a b : Bool) → r ≡ (a || false) → r ≡ true → r ≡ (a || b)
first_passes r true b same is = is
first_passes r false b same is = cc

pub others_pass : (q a r b : Bool) → q ≡ (a || false) → q ≡ false → r ≡ b → r ≡ (a || b)
others_pass q true r b same is e = cc
others_pass q false r b same is e = e
