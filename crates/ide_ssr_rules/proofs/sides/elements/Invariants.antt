use Rattle.std.proofs.Common.{length}
use Rattle.ide_ssr_rules.proofs.ReadingElements.{Reads}
use Rattle.ide_ssr_rules.proofs.sides.elements.Given as goal

abbrev pub invariant-loop-token : goal.invariant-loop-token
invariant-loop-token l = Reads l.fn.tokens.items l.elements.items l.names l.tokens

abbrev pub decreases-loop-token : goal.decreases-loop-token
decreases-loop-token l = length l.tokens
