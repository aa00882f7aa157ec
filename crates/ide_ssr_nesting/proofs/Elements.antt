-- Elements of lists: an empty list has none.
use Rattle.std.proofs.Common.{[], Contains, arith}

pub none_in : {X : Type 0} (x : X) → Contains [] x → ⊥
none_in x at = let within = at.1 in omega arith
