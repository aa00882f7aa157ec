use Rattle.std.proofs.Common.{◌≡◌, length}
use Rattle.ide_ssr_rules.specs.Constraints.{constraints}
use Rattle.ide_ssr_rules.proofs.ReadingConstraints.{prefixed}
use Rattle.ide_ssr_rules.proofs.constraints.constraints.Given as goal

abbrev pub invariant-loop-token : goal.invariant-loop-token
invariant-loop-token l = prefixed l.constraints.items (constraints l.tokens) ≡ constraints l.fn.tokens

abbrev pub decreases-loop-token : goal.decreases-loop-token
decreases-loop-token l = length l.tokens
