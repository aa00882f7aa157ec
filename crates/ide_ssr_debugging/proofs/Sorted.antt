-- Nodes, sorted.
use Rattle.std.proofs.Common.{◌≡◌, ◌≢◌, ◌↔◌, List, All, AllPairs, Contains, length, get_or, arith}
use Rattle.std.specs.List.Sorted.{IsSortedBy, IsPermutation}
use Rattle.std.proofs.lemmas.List.Sorted.{sorted_far, All-permutation, Contains-permutation, IsPermutation-sym}
use Rattle.ssr_base_trees.specs.declared.ids.NodeId.{NodeId}
use Rattle.ssr_base_trees.specs.Workspace.{PlacedTree}
use Rattle.ssr_base_trees.specs.Built.{IsNodeOf}
use Rattle.ide_ssr_nesting.specs.Laws.{OnePlaceEach}
use Rattle.ide_ssr_debugging.specs.Debugging.{NodeBefore}
use Rattle.ide_ssr_debugging.specs.Private.Order.{is_ahead}
use Rattle.ide_ssr_debugging.proofs.Ahead.{ahead_order, not_behind}
use Rattle.ide_ssr_debugging.proofs.Once.{once_moved}

pub sorted_in_order : (trees : List PlacedTree) → OnePlaceEach trees → (found sorted : List NodeId) → All (IsNodeOf trees) found → AllPairs (λ a b. a ≢ b) found
    → IsPermutation found sorted → IsSortedBy (is_ahead trees) sorted → AllPairs (NodeBefore trees) sorted
sorted_in_order trees one found sorted nodes once moved up i j d less within =
    let nodes_in = All-permutation (IsNodeOf trees) found sorted moved nodes in
    not_behind trees one (get_or sorted i d) (get_or sorted j d) (nodes_in i d (omega arith)) (nodes_in j d within)
    (once_moved found sorted moved once i j d less within)
    (sorted_far (is_ahead trees) (ahead_order trees) sorted up i j d (omega arith) within)

pub same_nodes_sorted : (found sorted : List NodeId) → IsPermutation found sorted → (x : NodeId) → Contains sorted x ↔ Contains found x
same_nodes_sorted found sorted moved x = (
  Contains-permutation sorted found x (IsPermutation-sym found sorted moved),
  Contains-permutation found sorted x moved,
)
