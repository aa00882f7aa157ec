use Rattle.std.proofs.Common.{ap}
use Rattle.std.specs.List.{flat_map}
use Rattle.std.proofs.lemmas.List.{take_all}
use Rattle.ssr_streams.proofs.Pieces.{piece_part, piece_whole, sent_whole}
use Rattle.ssr_streams.proofs.sending.write_pieces.Goals as goal

pub returns-in-Err : goal.returns-in-Err
returns-in-Err g c =
    piece_part _ c.args.pieces.now _ _ c.loop-piece-test.true _ _ _ _ c.as_bytes.ensures.value c.loop-piece.invariant c.in-Err.ensures

pub loop-piece-preserved : goal.loop-piece-preserved
loop-piece-preserved g c =
    piece_whole _ c.args.pieces.now _ _ c.loop-piece-test.true _ _ _ _ c.as_bytes.ensures.value c.loop-piece.invariant c.in-Ok.ensures

pub returns : goal.returns
returns g c =
    sent_whole _ _ _ _ (ap (λ ps. flat_map (λ piece. piece.now) ps) (take_all _ _ c.loop-piece-test.false)) c.loop-piece.invariant
