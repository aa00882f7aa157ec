use Rattle.std.proofs.Common.{Contains, take}
use Rattle.ssr_base_trees.specs.declared.ids.NodeId.{NodeId}
use Rattle.ssr_base_trees.specs.Workspace.{trees}
use Rattle.ssr_names.specs.Private.Locals.{IsBoundBy}
use Rattle.ssr_names.proofs.locals.binds_among.Given as goal

abbrev pub invariant-loop-node : goal.invariant-loop-node
invariant-loop-node l = (function : NodeId) → Contains (take l.node-index l.nodes) function → IsBoundBy (trees l.trees) l.bound function l.name → ⊥
