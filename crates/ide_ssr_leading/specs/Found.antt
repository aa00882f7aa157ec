-- What a search that is led by usages tries and finds.
use Rattle.std.specs.Prelude.{ℕ, ◌≡◌, ◌+◌, ◌<◌, ◌^◌, List, Some, IfSome, slice_get}
use Rattle.ssr_syntax_tree.specs.Syntax.{node_count}
use Rattle.ssr_base_trees.specs.declared.ids.NodeId.{NodeId}
use Rattle.ssr_base_trees.specs.Meanings.{Meanings}
use Rattle.ssr_base_trees.specs.Workspace.{Workspace, PlacedTree, trees, with_number}
use Rattle.ide_ssr_resolved_rule.specs.Resolved.{ResolvedRule}
use Rattle.ide_ssr_resolving.specs.Resolved.{IsResolvedBy}
use Rattle.ide_ssr_bindings.specs.declared.bindings.Binding.{Binding}
use Rattle.ide_ssr_bindings.specs.Found.{FoundMatch}
use Rattle.ide_ssr_search.specs.Context.{Context}
use Rattle.ide_ssr_search.specs.Permitted.{IsPermitted}
use Rattle.ide_ssr_search.specs.WholeMatches.{IsWholeMatch}
use Rattle.ide_ssr_leading.specs.Leading.{picked_path, IsLedTo}

-- a rule is tried at the nodes that are permitted for it, and if a path leads its search, only where usages lead
pub record IsTried (w : Workspace) (m : Meanings) (context : Context) (rule : ResolvedRule) (x : NodeId) : Type 0 where
  pub permitted : IsPermitted w context rule x
  pub led : IfSome (picked_path rule) (IsLedTo (trees w) m rule x)

-- one of the rules matches as a whole at a node at which it is tried
pub record IsLedFound (w : Workspace) (m : Meanings) (context : Context) (rules : List ResolvedRule) (found : FoundMatch) : Type 0 where
  pub rule : ResolvedRule
  pub is_rule : slice_get rules found.rule ≡ Some rule
  pub tried : IsTried w m context rule found.node
  pub whole : IsWholeMatch (trees w) m rule found.node found.bindings

-- a program can name each node of these trees
abbrev pub AreNamed : List PlacedTree → Type 0
AreNamed trees =
    (t : ℕ) (p : PlacedTree) → with_number trees t ≡ Some p → (t < 2 ^ 32) × (1 + node_count p.syntax.children < 2 ^ 32)

-- each whole match of a rule that resolves, at a node that is permitted for it, is tried
abbrev pub LedIsComplete : Workspace → Meanings → Context → Type 0
LedIsComplete w m context =
    (rule : ResolvedRule) (x : NodeId) (bindings : List Binding)
    → IsResolvedBy m rule → IsPermitted w context rule x → IsWholeMatch (trees w) m rule x bindings → IsTried w m context rule x
