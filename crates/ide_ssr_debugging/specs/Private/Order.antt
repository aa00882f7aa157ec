-- Private: how nodes are sorted.
use Rattle.std.specs.Prelude.{ℕ, ◌+◌, ◌==◌, ◌&&◌, ◌||◌, nat_lt, Bool, false, if◌then◌else◌, List}
use Rattle.std.specs.Option.{option_map_or}
use Rattle.ssr_base_trees.specs.declared.ids.NodeId.{NodeId}
use Rattle.ssr_base_trees.specs.Workspace.{PlacedTree, with_number, has_node}
use Rattle.ide_ssr_nesting.specs.Order.{place}
use Rattle.ide_ssr_debugging.specs.Debugging.{start}

-- whether a node is one of these trees
unfoldable pub is_node : List PlacedTree → NodeId → Bool
is_node trees x = option_map_or (λ p. has_node p.syntax x.node.0) (with_number trees x.tree) false

-- a sort may compare any two nodes: one that the trees lack, which no snippet shows, comes before all others
unfoldable pub rank : List PlacedTree → NodeId → ℕ
rank trees x = if is_node trees x then 1 + place trees x else 0

-- whether a is sorted in front of b
unfoldable pub is_ahead : List PlacedTree → NodeId → NodeId → Bool
is_ahead trees a b = nat_lt (start trees a) (start trees b) || (start trees a == start trees b && nat_lt (rank trees a) (rank trees b))
