use Rattle.std.proofs.Common.{◌≡◌}
use Rattle.ide_ssr_matching.specs.Private.ChildNodes.{numbers_among}
use Rattle.ide_ssr_matching.proofs.child_nodes.next_node.Given as goal

abbrev pub invariant-loop-child : goal.invariant-loop-child
invariant-loop-child l =
    (goal.iterator-loop-child).can_next l.left × (goal.iterator-loop-child).is_finite l.left × (numbers_among l.left ≡ numbers_among l.fn.left)
