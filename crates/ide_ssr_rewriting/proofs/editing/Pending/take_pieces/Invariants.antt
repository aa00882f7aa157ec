use Rattle.std.proofs.Common.{map, option_map}
use Rattle.ide_ssr_rewriting.specs.Private.Pieces.{piece_bytes}
use Rattle.ide_ssr_rewriting.specs.Clashes.{clash_of}
use Rattle.ide_ssr_rewriting.proofs.Pieces.{AreTaken}
use Rattle.ide_ssr_rewriting.proofs.editing.Pending.take_pieces.Given as goal

abbrev pub invariant-loop-index : goal.invariant-loop-index
invariant-loop-index g l =
    AreTaken l.nest.kept.now l.nest.lists.now l.writer.rules.now l.m l.place l.index l.initial.self.texts.items l.self.texts.items l.are_all (map piece_bytes l.pieces.items)
    (option_map clash_of l.initial.self.clash) (option_map clash_of l.self.clash)
