-- Private: how matches are sorted.
use Rattle.std.specs.Prelude.{ℕ, ◌==◌, ◌&&◌, ◌||◌, nat_lt, Bool, false, if◌then◌else◌, List}
use Rattle.std.specs.Option.{option_map_or}
use Rattle.ssr_base_trees.specs.declared.ids.NodeId.{NodeId}
use Rattle.ssr_base_trees.specs.Workspace.{PlacedTree, with_number, has_node, same_id}
use Rattle.ide_ssr_bindings.specs.Found.{FoundMatch}
use Rattle.ide_ssr_nesting.specs.Order.{count_of, place}

-- whether a node is one of these trees
unfoldable pub is_node : List PlacedTree → NodeId → Bool
is_node trees x = option_map_or (λ p. has_node p.syntax x.node.0) (with_number trees x.tree) false

-- a sort may compare any two matches: one at a node that the trees lack, which no search finds, comes behind all others
unfoldable pub first_rank : List PlacedTree → FoundMatch → ℕ
first_rank trees m = if is_node trees m.node then place trees m.node else count_of trees

unfoldable pub next_rank : List PlacedTree → FoundMatch → ℕ
next_rank trees m = if is_node trees m.node then m.rule else 0

-- whether k is sorted in front of m
unfoldable pub is_ahead : List PlacedTree → FoundMatch → FoundMatch → Bool
is_ahead trees k m =
    nat_lt (first_rank trees k) (first_rank trees m)
    || (first_rank trees k == first_rank trees m && nat_lt (next_rank trees k) (next_rank trees m))

-- whether two matches are of one rule at one node
abbrev pub is_same : FoundMatch → FoundMatch → Bool
is_same k m = same_id k.node m.node && k.rule == m.rule
