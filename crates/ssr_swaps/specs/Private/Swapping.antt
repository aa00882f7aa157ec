-- How a tree with other trees in the places of nodes is gone through.
use Rattle.std.specs.Prelude.{ℕ, zero, suc, ◌+◌, ◌-◌, ◌≡◌, ◌<◌, ◌≤◌, List, [], ◌∷◌, ◌++◌, drop, length, Option, None, slice_get, slice_index_or}
use Rattle.std.specs.Option.{option_and_then, option_map, option_map_or}
use Rattle.ssr_syntax_tree.specs.Syntax.{Syntax, node_count}
use Rattle.ssr_syntax_tree.specs.Places.{Node}
use Rattle.ssr_swaps.specs.declared.swap.Swap.{Swap}
use Rattle.ssr_swaps.specs.Private.Marks.{PlainMark, marks_of, node_marks}
use Rattle.ssr_swaps.specs.Swapped.{swap_at}

-- the marks of the nodes that are left in preorder, of which the first ones, so many, lie below a place that is taken
abbrev pub left : (ℕ → Option Syntax) → ℕ → List Node → List PlainMark
left at skipped [] = []
left at zero (node ∷ nodes) =
    option_map_or (λ tree. marks_of tree ++ left at (node_count node.children) nodes) (at node.number) (node_marks node ++ left at zero nodes)
left at (suc skipped) (node ∷ nodes) = left at skipped nodes

-- behind the marks of a node, or of what stands in its place, come those of what is left behind the last node that these are for
pub record Goes (at : ℕ → Option Syntax) (nodes : List Node) (number last : ℕ) (old new : List PlainMark) : Type 0 where
  pub further : number ≤ last
  pub marks : new ++ left at (last - number) (drop (number + 1) nodes) ≡ old ++ left at 0 (drop number nodes)

-- the swap that the table tells for the node with this number
abbrev pub told_at : List (Option ℕ) → List Swap → ℕ → Option Swap
told_at table swaps n = option_and_then (slice_get swaps) (slice_index_or table n None)

-- for the first numbers, so many, the table tells which of some swaps stand in their nodes' places
pub record Tells (table : List (Option ℕ)) (swaps some : List Swap) (count : ℕ) : Type 0 where
  pub counted : length table ≡ count
  pub each : (n : ℕ) → n < count → option_map (λ swap. swap.tree) (told_at table swaps n) ≡ swap_at some n
