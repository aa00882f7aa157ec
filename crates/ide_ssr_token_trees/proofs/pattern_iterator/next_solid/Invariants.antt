use Rattle.ide_ssr_token_trees.proofs.Solid.{IsBehindTrivia}
use Rattle.ide_ssr_token_trees.proofs.pattern_iterator.next_solid.Given as goal

abbrev pub invariant-loop-child : goal.invariant-loop-child
invariant-loop-child l =
    (goal.iterator-loop-child).can_next l.left × (goal.iterator-loop-child).is_finite l.left × IsBehindTrivia l.tree l.fn.left l.left
