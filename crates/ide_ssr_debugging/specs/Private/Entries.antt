-- Private: entries, as they are made.
use Rattle.std.specs.Prelude.{ℕ, ◌≡◌, ◌<◌, ◌↔◌, List, slice_get, AllPairs, Contains}
use Rattle.std.specs.Option.{IsSomeAnd}
use Rattle.ssr_syntax_tree.specs.Syntax.{Syntax}
use Rattle.ssr_base_trees.specs.declared.ids.NodeId.{NodeId}
use Rattle.ssr_base_trees.specs.Meanings.{Meanings}
use Rattle.ssr_base_trees.specs.Workspace.{Workspace, PlacedTree, trees}
use Rattle.ide_ssr_resolved_rule.specs.Resolved.{ResolvedRule}
use Rattle.ide_ssr_debugging.specs.Debugging.{Entry, Tells, IsTold, EntryBefore}

-- what is told of a rule of the first n ones at a node of a tree
pub record IsToldAt (ts : List PlacedTree) (m : Meanings) (rules : List ResolvedRule) (tree : Syntax) (x : NodeId) (n : ℕ) (e : Entry) : Type 0 where
  pub here : e.node ≡ x
  pub early : e.rule < n
  pub tells : IsSomeAnd (slice_get rules e.rule) (λ rule. Tells ts m rule tree e)

-- what is told of the first n rules at a node of a tree, in order
pub record AreToldAt (ts : List PlacedTree) (m : Meanings) (rules : List ResolvedRule) (tree : Syntax) (x : NodeId) (n : ℕ) (entries : List Entry) : Type 0 where
  pub in_order : AllPairs (λ e f. e.rule < f.rule) entries
  pub are : (e : Entry) → Contains entries e ↔ IsToldAt ts m rules tree x n e

-- what is told at these nodes, in order
pub record AreToldOf (w : Workspace) (m : Meanings) (rules : List ResolvedRule) (nodes : List NodeId) (entries : List Entry) : Type 0 where
  pub in_order : AllPairs (EntryBefore (trees w)) entries
  pub are : (e : Entry) → Contains entries e ↔ (Contains nodes e.node × IsTold w m rules e)
