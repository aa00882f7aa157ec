use Rattle.std.proofs.Common.{length}
use Rattle.ide_ssr_token_trees.specs.Private.Siblings.{siblings_left}
use Rattle.ide_ssr_token_trees.proofs.Rests.{PassedCame}
use Rattle.ide_ssr_token_trees.proofs.siblings.Siblings.next_counted.Given as goal

abbrev pub invariant-loop-element : goal.invariant-loop-element
invariant-loop-element l = PassedCame l.tree l.fn.self l.self

abbrev pub decreases-loop-element : goal.decreases-loop-element
decreases-loop-element l = length (siblings_left l.self)
