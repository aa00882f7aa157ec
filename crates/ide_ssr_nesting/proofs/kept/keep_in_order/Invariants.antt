use Rattle.ssr_base_trees.specs.Workspace.{trees}
use Rattle.ide_ssr_nesting.proofs.Keeping.{AreKeptSoFar}
use Rattle.ide_ssr_nesting.proofs.kept.keep_in_order.Given as goal

abbrev pub invariant-loop-m : goal.invariant-loop-m
invariant-loop-m l =
    AreKeptSoFar (trees l.workspace) l.fn.found.items l.nest.matches.items l.nest.holders.items l.m-iterator.rest.items
