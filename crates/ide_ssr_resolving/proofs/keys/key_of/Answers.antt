use Rattle.std.proofs.Common.{map, ap, string_bytes, ◌∙◌}
use Rattle.ssr_syntax_tree.specs.Places.{node_of}
use Rattle.ide_ssr_resolving.specs.Private.Pieces.{tokens_at}
use Rattle.ide_ssr_resolving.proofs.Pieces.{no_piece, spaced_at, mapped_more, keys_all}
use Rattle.ide_ssr_resolving.proofs.keys.key_of.Goals as goal

pub loop-piece-init : goal.loop-piece-init
loop-piece-init c = ap (map string_bytes) c.new-key.ensures.items

pub loop-piece-preserved : goal.loop-piece-preserved
loop-piece-preserved c =
    mapped_more string_bytes (spaced_at c.args.tree.now) c.deref-piece-items.result.now c.loop-piece.piece-index no_piece _ _ _
    c.loop-piece-test.true c.in_ok-text.ensures c.loop-piece.invariant c.in_ok-push.ensures.items

pub returns : goal.returns
returns c =
    keys_all c.args.tree.now (node_of c.args.tree.now c.args.path.0).children c.deref-piece-items.result.now c.loop-piece.piece-index _ c.loop-piece-test.false
    (ap (map (tokens_at c.args.tree.now)) c.deref-piece-items.ensures.value ∙ c.in_ok-pieces.ensures.pieces) c.loop-piece.invariant
