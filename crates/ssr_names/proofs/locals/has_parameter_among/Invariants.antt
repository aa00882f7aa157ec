use Rattle.std.proofs.Common.{Contains, take}
use Rattle.ssr_base_trees.specs.declared.ids.NodeId.{NodeId}
use Rattle.ssr_base_trees.specs.Workspace.{trees}
use Rattle.ssr_names.specs.Locals.{HasParameterAt}
use Rattle.ssr_names.proofs.locals.has_parameter_among.Given as goal

abbrev pub invariant-loop-node : goal.invariant-loop-node
invariant-loop-node l = (item : NodeId) → Contains (take l.node-index l.nodes) item → HasParameterAt (trees l.trees) item l.name → ⊥
