use Rattle.std.proofs.Common.{◌≡◌}
use Rattle.ssr_base_trees.specs.Workspace.{trees}
use Rattle.ssr_base_trees.specs.Laws.{climbed}
use Rattle.ide_ssr_leading.proofs.led.climbed.Given as goal

abbrev pub invariant-loop-left : goal.invariant-loop-left
invariant-loop-left l = climbed (trees l.workspace) l.left l.at ≡ climbed (trees l.fn.workspace) l.fn.steps l.fn.node

abbrev pub decreases-loop-left : goal.decreases-loop-left
decreases-loop-left l = l.left
