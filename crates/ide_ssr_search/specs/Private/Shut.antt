-- Private: nodes below which nothing is tried.
use Rattle.std.specs.Prelude.{ℕ, ◌≡◌, ◌+◌, ◌⊎◌, List}
use Rattle.ssr_syntax_tree.specs.Syntax.{Syntax}
use Rattle.ssr_syntax_tree.specs.Places.{node_of, size_of}
use Rattle.ssr_base_trees.specs.declared.ids.NodeId.{NodeId}
use Rattle.ssr_base_trees.specs.Workspace.{PlacedTree, node_id}
use Rattle.ssr_base_trees.specs.Laws.{IsBelow}
use Rattle.ide_ssr_bindings.specs.Found.{IsAtOrBelow}
pub use Rattle.ide_ssr_search.specs.Permitted.{Shuts}

-- a node that shuts in what is below it stands above this one
abbrev pub IsShutIn : List PlacedTree → NodeId → Type 0
IsShutIn trees x = (a : NodeId) × IsBelow trees x a × Shuts trees a

-- a node that shuts in what is below it stands above those directly below this one: it is this one, or stands above it
abbrev pub IsShut : List PlacedTree → NodeId → Type 0
IsShut trees x = (a : NodeId) × IsAtOrBelow trees x a × Shuts trees a

-- the number behind a node that shuts in what is below it; of any other node 0
abbrev pub TellsPast : List PlacedTree → ℕ → Syntax → ℕ → ℕ → Type 0
TellsPast trees t syntax n past =
    ((past ≡ 0) × ¬ Shuts trees (node_id t n)) ⊎ ((past ≡ n + size_of (node_of syntax n)) × Shuts trees (node_id t n))
