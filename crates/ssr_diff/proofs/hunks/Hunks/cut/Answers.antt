use Rattle.std.proofs.Common.{refl}
use Rattle.ssr_diff.proofs.hunks.Hunks.cut.Goals as goal

pub advance-requires-clause-order : goal.advance-requires-clause-order
advance-requires-clause-order c =
    let order = c.if-has_in_order.ensures.0 refl in
    record { old_order = order.0; new_order = order.1; old_fits = order.2; new_fits = order.3 }
