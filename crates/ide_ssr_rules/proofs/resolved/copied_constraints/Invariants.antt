use Rattle.std.proofs.Common.{◌≡◌, take}
use Rattle.ide_ssr_rules.proofs.resolved.copied_constraints.Given as goal

abbrev pub invariant-loop-set : goal.invariant-loop-set
invariant-loop-set l = l.copies.items ≡ take l.set-index l.constraints
