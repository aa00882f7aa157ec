use Rattle.std.proofs.Common.{◌+◌, ◌-◌, ◌≤◌, length}
use Rattle.ide_ssr_debugging.specs.Private.Shown.{AreShownBefore}
use Rattle.ide_ssr_debugging.proofs.shown.found_nodes.Given as goal

abbrev pub invariant-loop-tree : goal.invariant-loop-tree
invariant-loop-tree l = record {
  within : l.number ≤ length l.workspace.files + length l.workspace.expansions;
  shown : AreShownBefore l.workspace l.file l.snippet l.number 0 l.shown.items;
}

abbrev pub decreases-loop-tree : goal.decreases-loop-tree
decreases-loop-tree l = length l.workspace.files + length l.workspace.expansions - l.number
