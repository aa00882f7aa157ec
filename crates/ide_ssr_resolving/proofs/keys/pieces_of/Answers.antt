use Rattle.ssr_syntax_tree.specs.Places.{node_of}
use Rattle.ide_ssr_resolving.specs.Private.Parts.{below}
use Rattle.ide_ssr_resolving.proofs.Pieces.{with_last, without_last}
use Rattle.ide_ssr_resolving.proofs.keys.pieces_of.Goals as goal

pub returns-in_default-clause-pieces : goal.returns-in_default-clause-pieces
returns-in_default-clause-pieces c =
    without_last c.args.tree.now (node_of c.args.tree.now c.args.path.0).children _ c.in_default.ensures.below c.in_ok-pieces.ensures.pieces

pub returns-clause-pieces : goal.returns-clause-pieces
returns-clause-pieces c =
    with_last c.args.tree.now (node_of c.args.tree.now c.args.path.0).children _ _ _ (below c.args.tree.now c.in-Some.last) c.in-Some.ensures.below
    c.in_ok-pieces.ensures.pieces c.name_piece.ensures.tokens c.in_ok-push_pieces.ensures.pieces
