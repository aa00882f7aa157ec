use Rattle.std.proofs.Common.{length, take, ◌-◌, ◌≤◌}
use Rattle.ssr_streams.proofs.Pieces.{HasSent}
use Rattle.ssr_streams.proofs.sending.write_all.Given as goal

abbrev pub invariant-loop-at : goal.invariant-loop-at
invariant-loop-at g l =
    (l.at ≤ length l.bytes)
    × HasSent (g.W.Sink.taken l.initial.sink) (g.W.Sink.taken l.sink) (take l.at l.bytes)

abbrev pub decreases-loop-at : goal.decreases-loop-at
decreases-loop-at g l = length l.bytes - l.at
