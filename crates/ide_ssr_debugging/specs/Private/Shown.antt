-- Private: the nodes that a snippet shows, as they are found.
use Rattle.std.specs.Prelude.{ℕ, ◌≢◌, ◌↔◌, List, AllPairs, Contains}
use Rattle.ssr_base_trees.specs.declared.ids.FileId.{FileId}
use Rattle.ssr_base_trees.specs.declared.ids.NodeId.{NodeId}
use Rattle.ssr_base_trees.specs.Workspace.{Workspace, node_id}
use Rattle.ssr_base_trees.specs.Laws.{IsEarlier}
use Rattle.ide_ssr_debugging.specs.Debugging.{IsShown}

-- those before the node n of the tree t
pub record AreShownBefore (w : Workspace) (file : FileId) (snippet : List ℕ) (t n : ℕ) (xs : List NodeId) : Type 0 where
  pub once : AllPairs (λ a b. a ≢ b) xs
  pub are : (x : NodeId) → Contains xs x ↔ (IsShown w file snippet x × IsEarlier x (node_id t n))
