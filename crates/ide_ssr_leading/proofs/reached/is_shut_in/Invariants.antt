use Rattle.std.proofs.Common.{◌+◌, ◌*◌}
use Rattle.std.specs.Prelude.{◌↔◌}
use Rattle.ssr_base_trees.specs.Workspace.{trees}
use Rattle.ide_ssr_leading.specs.Private.Reached.{IsShutIn}
use Rattle.ide_ssr_leading.proofs.reached.is_shut_in.Given as goal

abbrev pub invariant-loop-above : goal.invariant-loop-above
invariant-loop-above l = IsShutIn (trees l.workspace) l.at ↔ IsShutIn (trees l.fn.workspace) l.fn.node

abbrev pub decreases-loop-above : goal.decreases-loop-above
decreases-loop-above l = l.at.tree * 4294967296 + l.at.node.0
