use Rattle.ide_ssr_nesting.proofs.order.+is_at_or_above.Given as goal

abbrev pub decreases-is_at_or_above : goal.decreases-is_at_or_above
decreases-is_at_or_above l = l.b.tree
