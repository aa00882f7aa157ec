use Rattle.std.proofs.Common.{◌≡◌, map, take}
use Rattle.std.specs.Prelude.{All}
use Rattle.std.specs.List.{flat_map}
use Rattle.ssr_syntax_tree.specs.Syntax.{tokens_in}
use Rattle.ide_ssr_resolving.specs.Keys.{pieces}
use Rattle.ide_ssr_resolving.specs.Private.Parts.{below}
use Rattle.ide_ssr_resolving.specs.Private.Pieces.{tokens_at, HasPiece}
use Rattle.ide_ssr_resolving.proofs.keys.qualifying_pieces.Given as goal

abbrev pub invariant-loop-segment : goal.invariant-loop-segment
invariant-loop-segment l = record {
  so_far : map (tokens_at l.tree) l.pieces.items
      ≡ flat_map (λ segment. pieces (tokens_in segment)) (map (below l.tree) (take l.segment-index l.segment-items));
  has : All (HasPiece l.tree) l.pieces.items;
}
