use Rattle.ssr_names.proofs.Collecting.{CollectsBelow}
use Rattle.ssr_names.proofs.words.Words.add_trees.Given as goal

abbrev pub invariant-loop-number : goal.invariant-loop-number
invariant-loop-number l = CollectsBelow l.trees l.self l.number
