use Rattle.std.proofs.Common.{◌≡◌, cond, ltb, None}
use Rattle.std.specs.Map.{lookup}
use Rattle.std.specs.Option.{option_and_then}
use Rattle.ssr_base_trees.specs.declared.ids.NodeId.{NodeId}
use Rattle.ssr_base_trees.specs.Workspace.{same_id}
use Rattle.ssr_facts.specs.Nodes.{place_of}
use Rattle.ssr_facts.specs.Scopes.{scope_of}
use Rattle.ssr_facts.proofs.scopes.scopes_of_nodes.Given as goal

abbrev pub invariant-loop-number : goal.invariant-loop-number
invariant-loop-number l =
    (x : NodeId) → lookup (same_id x) l.told.items ≡ cond (ltb x.tree l.number) (option_and_then (scope_of l.rows) (place_of l.workspace x)) None
