-- Trees in which other trees stand in the places of nodes.
use Rattle.std.specs.Prelude.{ℕ, ◌+◌, ◌==◌, ◌≡◌, if◌then◌else◌, List, [], ◌∷◌, Option, Some, None}
use Rattle.std.specs.Option.{option_map_or}
use Rattle.ssr_syntax_kinds.specs.Kinds.{is_trivia}
use Rattle.ssr_syntax_tree.specs.Syntax.{Forest, nothing, leaf, branch, Syntax, node_count}
use Rattle.ssr_swaps.specs.declared.swap.Swap.{Swap}

-- what stands in the place of the node with this number, if something does; of several the first
abbrev pub swap_at : List Swap → ℕ → Option Syntax
swap_at [] n = None
swap_at (swap ∷ swaps) n = if swap.node.0 == n then Some swap.tree else swap_at swaps n

-- siblings and what is below them, of which the first node has the number m, with these in the places of nodes
abbrev pub swapped : (ℕ → Option Syntax) → ℕ → Forest → Forest
swapped at m nothing = nothing
swapped at m (leaf token next) = leaf token (swapped at m next)
swapped at m (branch kind below next) =
    option_map_or
    (λ tree. branch tree.kind tree.children (swapped at (1 + m + node_count below) next))
    (at m)
    (branch kind (swapped at (1 + m) below) (swapped at (1 + m + node_count below) next))

-- A tree with these in the places of nodes below its root.
abbrev pub with_swaps : List Swap → Syntax → Syntax
with_swaps swaps tree = record { kind = tree.kind; children = swapped (swap_at swaps) 1 tree.children }

-- siblings and what is below them, without white space and comments
abbrev pub bare : Forest → Forest
bare nothing = nothing
bare (leaf token next) = if is_trivia token.kind then bare next else leaf token (bare next)
bare (branch kind below next) = branch kind (bare below) (bare next)

pub record AreAlike (one other : Syntax) : Type 0 where
  pub kind : one.kind ≡ other.kind
  pub children : bare one.children ≡ bare other.children
