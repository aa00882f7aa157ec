use Rattle.std.proofs.Common.{◌≡◌, take}
use Rattle.ide_ssr.proofs.ByStart.{places_of}
use Rattle.ide_ssr.proofs.starts.by_start.Given as goal

abbrev pub invariant-loop-start : goal.invariant-loop-start
invariant-loop-start l = l.order.items ≡ places_of (take l.start-index l.start-items)
