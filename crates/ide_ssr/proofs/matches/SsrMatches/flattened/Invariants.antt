use Rattle.ide_ssr.proofs.Flattening.{IsFlattening}
use Rattle.ide_ssr.proofs.Sizes.{size_of_all}
use Rattle.ide_ssr.proofs.matches.SsrMatches.flattened.Given as goal

abbrev pub invariant-loop-flat : goal.invariant-loop-flat
invariant-loop-flat l = IsFlattening l.fn.self.matches.items l.left.matches.items l.flat.matches.items

abbrev pub decreases-loop-flat : goal.decreases-loop-flat
decreases-loop-flat l = size_of_all l.left.matches.items
