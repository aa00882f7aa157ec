-- Private: what shuts in the nodes that usages lead to.
use Rattle.std.specs.Prelude.{List}
use Rattle.ssr_base_trees.specs.declared.ids.NodeId.{NodeId}
use Rattle.ssr_base_trees.specs.Workspace.{PlacedTree}
use Rattle.ssr_base_trees.specs.Laws.{IsBelow}
use Rattle.ide_ssr_search.specs.Permitted.{Shuts}

-- a node that shuts in what is below it stands above this one
abbrev pub IsShutIn : List PlacedTree → NodeId → Type 0
IsShutIn trees x = (a : NodeId) × IsBelow trees x a × Shuts trees a
