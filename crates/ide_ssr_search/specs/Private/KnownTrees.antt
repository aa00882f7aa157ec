-- Private: what is known of trees before their nodes are tried.
use Rattle.std.specs.Prelude.{ℕ, ◌≡◌, ◌≢◌, ◌+◌, ◌<◌, ◌≤◌, ◌⊎◌, ◌↔◌, Bool, false, IsTrue, List, length, slice_index_or, Option, Some, None}
use Rattle.std.specs.BTreeSet.{BTreeSet, contains}
use Rattle.std.specs.Option.{IsSomeAnd}
use Rattle.ssr_syntax_tree.specs.Syntax.{Syntax}
use Rattle.ssr_syntax_tree.specs.Places.{HasNode, node_of, size_of}
use Rattle.ssr_base_trees.specs.declared.ids.NodeId.{NodeId}
use Rattle.ssr_base_trees.specs.contracts.ids.NodeIdOrd.TheImpl as id_order
use Rattle.ssr_base_trees.specs.Workspace.{Workspace, trees, tree_of, node_id}
use Rattle.ssr_base_trees.specs.Built.{IsNodeOf, IsMacroCall, IsBuilt}
use Rattle.ssr_base_trees.specs.Laws.{IsEarlier, IsBelow}
use Rattle.ide_ssr_search.specs.declared.known_tree.KnownTree.{KnownTree}
use Rattle.ide_ssr_search.specs.Context.{Context}
use Rattle.ide_ssr_search.specs.Private.Shut.{IsShutIn, IsShut}
use Rattle.ide_ssr_search.specs.Private.Bounds.{AreBounds}

-- what is known of a tree before its nodes are tried
pub record IsKnownTree (known : KnownTree) : Type 0 where
  pub built : IsBuilt known.workspace.now
  pub tree : tree_of known.workspace.now known.number ≡ Some known.tree.now
  pub bounds : AreBounds (trees known.workspace.now) known.number known.bounds
  pub shut : IsTrue known.shut ↔ IsShutIn (trees known.workspace.now) (node_id known.number 0)
  pub inside : IsTrue known.inside ↔ IsSomeAnd known.context.now.function (IsBelow (trees known.workspace.now) (node_id known.number 0))

-- a call before the node n of the tree t shuts in what it stands for
pub record IsShutCall (w : Workspace) (t n : ℕ) (call : NodeId) : Type 0 where
  pub earlier : IsEarlier call (node_id t n)
  pub node : IsNodeOf (trees w) call
  pub is_call : IsMacroCall (trees w) call
  pub shut : IsShut (trees w) call

-- these are all calls before the node n of the tree t that shut in what they stand for
abbrev pub KnowsShut : Workspace → ℕ → ℕ → BTreeSet NodeId → Type 0
KnowsShut w t n shut = (call : NodeId) → IsTrue (contains ((id_order.ghosts).cmp) shut call) ↔ IsShutCall w t n call

-- which of the trees before t stand below the function
pub record KnowsInside (w : Workspace) (context : Context) (t : ℕ) (inside : List Bool) : Type 0 where
  pub counted : length inside ≡ t
  pub known : (s : ℕ) → s < t → IsTrue (slice_index_or inside s false) ↔ IsSomeAnd context.function (IsBelow (trees w) (node_id s 0))

-- a macro call of a tree before the tree t, as the call of t is
pub record IsEarlierCall (w : Workspace) (t : ℕ) (call : NodeId) : Type 0 where
  pub earlier : call.tree < t
  pub node : IsNodeOf (trees w) call
  pub is_call : IsMacroCall (trees w) call

-- a node of a tree stands in the function, where it is known whether the tree stands below it
abbrev pub StandsIn : Option NodeId → Syntax → ℕ → Bool → ℕ → Type 0
StandsIn None syntax t inside n = ⊥
StandsIn (Some f) syntax t inside n =
    ((f.tree ≢ t) × IsTrue inside)
    ⊎ ((f.tree ≡ t) × HasNode syntax f.node.0 × (f.node.0 ≤ n) × (n < f.node.0 + size_of (node_of syntax f.node.0)))
