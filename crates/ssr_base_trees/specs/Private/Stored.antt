-- Private: how a `Workspace` is seen as its plain value, and what it keeps beside that.
use Rattle.std.specs.Prelude.{ℕ, ◌+◌, ◌-◌, ◌≡◌, ◌≤◌, length, map, slice_get, Some}
use Rattle.std.specs.List.{position_from}
use Rattle.std.specs.BTreeMap.{get}
use Rattle.ssr_base_trees.specs.declared.ids.NodeId.{NodeId}
use Rattle.ssr_base_trees.specs.contracts.ids.NodeIdOrd.TheImpl as id_order
use Rattle.ssr_base_trees.specs.declared.trees.Expanded.{Expanded as Stored}
use Rattle.ssr_base_trees.specs.declared.trees.Trees.TheInside.{Inside}
use Rattle.ssr_base_trees.specs.Origins.{plain_origin}
use Rattle.ssr_base_trees.specs.Private.Covers.{AreCovers}
use Rattle.ssr_base_trees.specs.Built.{most_trees, IsBuilt}
use Rattle.ssr_base_trees.specs.Workspace.{Expanded, Workspace, trees, file_of, nesting, same_id}

abbrev pub expanded_of : Stored → Expanded
expanded_of e = record { call = e.call; syntax = e.tree; origins = map plain_origin e.origins.items }

abbrev pub workspace_of : Inside → Workspace
workspace_of w = record { reach = w.reach; files = w.files.items; expansions = map expanded_of w.expansions.items }

-- what is stored of the expansion that has a tree
pub record IsStoredAt (w : Workspace) (tree : ℕ) (e : Stored) : Type 0 where
  pub behind : length w.files ≤ tree
  pub is : slice_get w.expansions (tree - length w.files) ≡ Some (expanded_of e)
  pub covers : AreCovers e.tree (map plain_origin e.origins.items) e.covers.items
  pub file : e.file ≡ file_of (trees w) tree
  pub nesting : e.nesting ≡ nesting (trees w) tree

pub record IsStored (w : Inside) : Type 0 where
  pub built : IsBuilt (workspace_of w)
  pub few : length w.files.items + length w.expansions.items ≤ most_trees
  pub each : (tree : ℕ) (e : Stored) → length w.files.items ≤ tree → slice_get w.expansions.items (tree - length w.files.items) ≡ Some e → IsStoredAt (workspace_of w) tree e
  pub calls : (call : NodeId) → get ((id_order.ghosts).cmp) w.calls call ≡ position_from (λ e. same_id call e.call) 0 (map expanded_of w.expansions.items)
