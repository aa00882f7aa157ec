use Rattle.std.proofs.Common.{All, map, ap, sym, subst, ◌∙◌}
use Rattle.std.proofs.lemmas.List.Elements.{All-nil}
use Rattle.ssr_syntax_tree.specs.declared.number.NodeNo.{NodeNo}
use Rattle.ssr_syntax_tree.specs.Places.{HasNode}
use Rattle.ide_ssr_resolving.specs.Private.Parts.{below}
use Rattle.ide_ssr_resolving.specs.Private.Pieces.{tokens_at, HasPiece}
use Rattle.ide_ssr_resolving.proofs.Pieces.{no_node, pieces_more, pieces_all}
use Rattle.ide_ssr_resolving.proofs.keys.qualifying_pieces.Goals as goal

pub loop-segment-init : goal.loop-segment-init
loop-segment-init c = record {
  so_far = ap (map (tokens_at c.args.tree.now)) c.new-pieces.ensures.items;
  has = subst (All (HasPiece c.args.tree.now)) (sym c.new-pieces.ensures.items) (All-nil (HasPiece c.args.tree.now));
}

pub loop-segment-preserved : goal.loop-segment-preserved
loop-segment-preserved c =
    let tree = c.args.tree.now in
    let have = subst (All (λ (segment : NodeNo). HasNode tree segment.0)) (sym c.deref-segment-items.ensures.value) c.in_ok-segments.ensures.has in
    record {
      so_far = pieces_more tree c.deref-segment-items.result.now c.loop-segment.segment-index _ _ no_node _ _ c.loop-segment-test.true
          (have c.loop-segment.segment-index no_node c.loop-segment-test.true) c.tokens_below-tokens.ensures.start c.tokens_below-tokens.ensures.end
          c.loop-segment.invariant.so_far c.in_ok-push_pieces.ensures.pieces;
      has = c.in_ok-push_pieces.ensures.has;
    }

pub returns-clause-pieces : goal.returns-clause-pieces
returns-clause-pieces c =
    pieces_all c.args.tree.now c.deref-segment-items.result.now c.loop-segment.segment-index _ _ c.loop-segment-test.false
    (ap (map (below c.args.tree.now)) c.deref-segment-items.ensures.value ∙ c.in_ok-segments.ensures.below) c.loop-segment.invariant.so_far

pub returns-clause-has : goal.returns-clause-has
returns-clause-has c = c.loop-segment.invariant.has
