use Rattle.ide_ssr.proofs.Flattening.{AreTaken}
use Rattle.ide_ssr.proofs.flattened.take_all_inner.Given as goal

abbrev pub invariant-loop-placeholder : goal.invariant-loop-placeholder
invariant-loop-placeholder l = AreTaken l.placeholder-index l.initial.placeholders l.placeholders l.initial.left.items l.left.items
