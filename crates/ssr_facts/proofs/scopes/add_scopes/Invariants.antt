use Rattle.std.proofs.Common.{◌≡◌, ℕ, ◌<◌, ◌≤◌, length, take, Some, Option}
use Rattle.std.specs.BTreeMap.{get}
use Rattle.std.specs.Map.{lookup}
use Rattle.std.specs.Option.{option_map, option_or}
use Rattle.std.specs.Ordering.{nat_cmp}
use Rattle.std.specs.Prelude.{slice_get}
use Rattle.ssr_syntax_tree.specs.Places.{HasNode, node_of, start_of}
use Rattle.ssr_base_trees.specs.declared.ids.NodeId.{NodeId}
use Rattle.ssr_base_trees.specs.Workspace.{same_id}
use Rattle.ssr_facts.specs.declared.scopes.Scope.{Scope}
use Rattle.ssr_facts.specs.Private.Nodes.{told_up_to}
use Rattle.ssr_facts.specs.Private.Scopes.{IsKept, IsBestAt, id_of}
use Rattle.ssr_facts.proofs.scopes.add_scopes.Given as goal

abbrev pub invariant-loop-node : goal.invariant-loop-node
invariant-loop-node l = record {
  within : l.next ≤ length l.scopes;
  kept : IsKept (get nat_cmp l.kept) (take l.next l.scopes);
  begun : (m k : ℕ) (v : Scope) → HasNode l.tree m → l.node ≤ m → k < l.next → slice_get l.scopes k ≡ Some v → v.start ≤ start_of l.tree (node_of l.tree m);
  told : (x : NodeId) (best : Option Scope) → IsBestAt l.tree x.node.0 l.scopes best
      → lookup (same_id x) l.told.items ≡ option_or (lookup (same_id x) l.initial.told.items) (told_up_to l.number l.node (λ _. option_map id_of best) x);
}
