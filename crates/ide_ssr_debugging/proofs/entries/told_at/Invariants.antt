use Rattle.ssr_base_trees.specs.Workspace.{trees}
use Rattle.ide_ssr_debugging.specs.Private.Entries.{AreToldAt}
use Rattle.ide_ssr_debugging.proofs.entries.told_at.Given as goal

abbrev pub invariant-loop-place : goal.invariant-loop-place
invariant-loop-place g l = AreToldAt (trees l.workspace) (g.S.Semantics.meanings l.semantics) l.rules l.tree l.node l.place l.told.items
