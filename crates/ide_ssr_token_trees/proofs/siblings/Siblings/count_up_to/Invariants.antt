use Rattle.std.proofs.Common.{length}
use Rattle.std.specs.Option.{option_copied}
use Rattle.ide_ssr_token_trees.specs.Private.Siblings.{siblings_left}
use Rattle.ide_ssr_token_trees.proofs.Runs.{CountedSoFar}
use Rattle.ide_ssr_token_trees.proofs.siblings.Siblings.count_up_to.Given as goal

abbrev pub invariant-loop-element : goal.invariant-loop-element
invariant-loop-element l = CountedSoFar l.tree (option_copied l.fn.text) l.fn.self l.self l.count

abbrev pub decreases-loop-element : goal.decreases-loop-element
decreases-loop-element l = length (siblings_left l.self)
