use Rattle.std.proofs.Common.{◌+◌}
use Rattle.ide_ssr_nesting.proofs.order.+precedes.Given as goal

abbrev pub decreases-precedes : goal.decreases-precedes
decreases-precedes l = l.a.tree + l.b.tree
