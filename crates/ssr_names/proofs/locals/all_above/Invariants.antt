use Rattle.std.proofs.Common.{◌+◌, ◌*◌, ◌⊎◌, Contains}
use Rattle.ssr_base_trees.specs.declared.ids.NodeId.{NodeId}
use Rattle.ssr_base_trees.specs.Workspace.{trees}
use Rattle.ssr_base_trees.specs.Laws.{IsBelow}
use Rattle.ssr_names.proofs.locals.all_above.Given as goal

abbrev pub invariant-loop-above : goal.invariant-loop-above
invariant-loop-above l =
    (above : NodeId) → IsBelow (trees l.fn.trees) l.fn.node above → Contains l.found.items above ⊎ IsBelow (trees l.trees) l.at above

abbrev pub decreases-loop-above : goal.decreases-loop-above
decreases-loop-above l = l.at.tree * 4294967296 + l.at.node.0
