-- The order of all nodes of a workspace: files in order, the nodes of a tree in preorder, and those of an expansion directly
-- behind its call, before what stands below the call. Places are numbers of these definitions alone.
use Rattle.std.specs.Prelude.{ℕ, ◌+◌, ◌==◌, ◌<◌, nat_le, if◌then◌else◌, List, [], ◌∷◌, length, Option}
use Rattle.std.specs.Option.{option_map_or}
use Rattle.ssr_syntax_tree.specs.Places.{node_of, root_of, size_of}
use Rattle.ssr_base_trees.specs.declared.ids.NodeId.{NodeId}
use Rattle.ssr_base_trees.specs.Workspace.{PlacedTree}

-- how many nodes a tree has
abbrev pub count_in : PlacedTree → ℕ
count_in p = size_of (root_of p.syntax)

-- how many nodes all trees have
abbrev pub count_of : List PlacedTree → ℕ
count_of [] = 0
count_of (p ∷ earlier) = count_in p + count_of earlier

-- a place once so many nodes went in directly behind another place
abbrev pub moved : ℕ → ℕ → ℕ → ℕ
moved behind count at = if nat_le at behind then at else at + count

-- where the first node of a tree goes in, by the places that there were: behind all nodes, or directly behind its call
abbrev pub entry : (NodeId → ℕ) → ℕ → Option NodeId → ℕ
entry place all call = option_map_or (λ c. 1 + place c) call all

-- a place once a tree with so many nodes went in
abbrev pub moved_by : (NodeId → ℕ) → ℕ → Option NodeId → ℕ → ℕ
moved_by place count call at = option_map_or (λ c. moved (place c) count at) call at

-- how many nodes come before a node. Trees are put in one after another, the first of the list as the last one
abbrev pub place : List PlacedTree → NodeId → ℕ
place [] x = 0
place (p ∷ earlier) x =
    if x.tree == length earlier
    then entry (place earlier) (count_of earlier) p.call + x.node.0
    else moved_by (place earlier) (count_in p) p.call (place earlier x)

-- how many nodes come before what is behind a node and all that stands below it
abbrev pub end_place : List PlacedTree → NodeId → ℕ
end_place [] x = 0
end_place (p ∷ earlier) x =
    if x.tree == length earlier
    then entry (place earlier) (count_of earlier) p.call + (x.node.0 + size_of (node_of p.syntax x.node.0))
    else moved_by (place earlier) (count_in p) p.call (end_place earlier x)

abbrev pub Precedes : List PlacedTree → NodeId → NodeId → Type 0
Precedes trees a b = place trees a < place trees b
