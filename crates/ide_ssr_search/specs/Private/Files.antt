-- Private: the file of a position.
use Rattle.std.specs.Prelude.{ℕ, ◌≡◌, ◌≤◌, Option, Some, length, option_map}
use Rattle.ssr_syntax_tree.specs.Syntax.{Syntax, source_of}
use Rattle.ssr_base_trees.specs.declared.ids.FilePosition.{FilePosition}
use Rattle.ssr_base_trees.specs.declared.ids.NodeId.{NodeId}
use Rattle.ssr_base_trees.specs.Workspace.{Workspace, tree_of, node_id}
use Rattle.ide_ssr_search.specs.Making.{HasFile}
use Rattle.ide_ssr_search.specs.Positions.{IsInnermost}

-- this is the tree of the position's file, and the position lies in its text or at the end
pub record IsFileAt (w : Workspace) (position : FilePosition) (tree : Syntax) : Type 0 where
  pub has : HasFile w position.file_id.0
  pub is : tree_of w position.file_id.0 ≡ Some tree
  pub within : position.offset ≤ length (source_of tree)

-- the innermost function at or above a node of a file's tree
abbrev pub IsFunctionAt : Syntax → ℕ → ℕ → Option NodeId → Type 0
IsFunctionAt syntax file n function = (around : Option ℕ) × IsInnermost syntax n around × (function ≡ option_map (node_id file) around)
