use Rattle.std.proofs.Common.{◌≡◌, ◌+◌, ◌≤◌, length}
use Rattle.std.specs.Vec.Iter.{into_iter_items}
use Rattle.ssr_base_trees.specs.Built.{most_trees}
use Rattle.ssr_base.specs.Building.{with_expansion, in_turn, built}
use Rattle.ssr_base.proofs.workspace.Workspace.build.Given as goal

abbrev pub invariant-loop-expansion : goal.invariant-loop-expansion
invariant-loop-expansion l = record {
  room : length l.workspace.files + length l.workspace.expansions + length (into_iter_items l.expansion-iterator) ≤ most_trees;
  left : built l.fn.files.items l.fn.expansions.items ≡ in_turn with_expansion l.workspace (into_iter_items l.expansion-iterator);
}
