-- Private: what is found or told of the nodes of one tree.
use Rattle.std.specs.Prelude.{ℕ, ◌==◌, ◌&&◌, nat_lt, if◌then◌else◌, List, Vec, Option, None}
use Rattle.std.specs.Global.{Global}
use Rattle.std.specs.BTreeMap.{BTreeMap, get}
use Rattle.std.specs.List.{find}
use Rattle.std.specs.Map.{lookup}
use Rattle.std.specs.Option.{option_map}
use Rattle.ssr_syntax_kinds.specs.declared.kinds.SyntaxKind.{SyntaxKind}
use Rattle.ssr_syntax_tree.specs.Syntax.{Syntax}
use Rattle.ssr_syntax_tree.specs.Places.{Node, node_of, nodes_of}
use Rattle.ssr_base_trees.specs.declared.ids.NodeId.{NodeId}
use Rattle.ssr_base_trees.specs.declared.ids.TypeId.{TypeId}
use Rattle.ssr_base_trees.specs.Workspace.{node_id, same_id}
use Rattle.ssr_facts_rows.specs.declared.places.PlaceRow.{PlaceRow}
use Rattle.ssr_facts_rows.specs.contracts.places.PlaceRowOrd.TheImpl as place_order
use Rattle.ssr_facts.specs.Nodes.{place_in, stands_at}

-- what a map has at a place
abbrev pub at_place : {V : Type 0} → BTreeMap PlaceRow V → PlaceRow → Option V
at_place map place = get ((place_order.ghosts).cmp) map place

-- the place of the node of a number
abbrev pub place_at : ℕ → Syntax → ℕ → PlaceRow
place_at t tree n = place_in t tree (node_of tree n)

-- of some nodes of a tree the first one of a kind that has a place
abbrev pub found_among : ℕ → Syntax → SyntaxKind → PlaceRow → List Node → Option NodeId
found_among t tree kind place nodes =
    if place.tree == t then option_map (λ node. node_id t node.number) (find (stands_at kind place tree) nodes) else None

abbrev pub found_in : ℕ → Syntax → SyntaxKind → PlaceRow → Option NodeId
found_in t tree kind place = found_among t tree kind place (nodes_of tree)

-- what is told of the first nodes of a tree, by their numbers
abbrev pub told_up_to : {A : Type 0} → ℕ → ℕ → (ℕ → Option A) → NodeId → Option A
told_up_to t count tell x = if (x.tree == t) && nat_lt x.node.0 count then tell x.node.0 else None

-- the types that rows tell of a node
abbrev pub types_at : List (NodeId × Vec TypeId Global) → NodeId → Option (List TypeId)
types_at told x = option_map (λ v. v.items) (lookup (same_id x) told)

-- the types of the node of a number, by its place
abbrev pub types_of_node : BTreeMap PlaceRow (Vec TypeId Global) → ℕ → Syntax → ℕ → Option (List TypeId)
types_of_node types t tree n = option_map (λ v. v.items) (at_place types (place_at t tree n))
