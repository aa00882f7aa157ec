use Rattle.std.proofs.Common.{take}
use Rattle.ssr_base_trees.specs.Workspace.{trees}
use Rattle.ide_ssr_search.specs.Private.Whole.{AreRanges}
use Rattle.ide_ssr_search.proofs.whole.held_ranges.Given as goal

abbrev pub invariant-loop-binding : goal.invariant-loop-binding
invariant-loop-binding l = AreRanges (trees l.workspace) l.tree (take l.binding-index l.bindings) l.ranges.items
