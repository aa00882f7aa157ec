use Rattle.std.proofs.Common.{take}
use Rattle.std.specs.List.{flat_map}
use Rattle.ssr_streams.proofs.Pieces.{HasSent}
use Rattle.ssr_streams.proofs.sending.write_pieces.Given as goal

abbrev pub invariant-loop-piece : goal.invariant-loop-piece
invariant-loop-piece g l =
    HasSent (g.W.Sink.taken l.initial.sink) (g.W.Sink.taken l.sink) (flat_map (λ piece. piece.now) (take l.piece-index l.pieces))
