use Rattle.std.proofs.Common.{◌≡◌}
use Rattle.std.specs.Option.{option_or}
use Rattle.ssr_base_trees.specs.declared.ids.NodeId.{NodeId}
use Rattle.ssr_facts.specs.Private.Nodes.{told_up_to, types_at, types_of_node}
use Rattle.ssr_facts.proofs.types.add_types.Given as goal

abbrev pub invariant-loop-node : goal.invariant-loop-node
invariant-loop-node l =
    (x : NodeId) → types_at l.told.items x ≡ option_or (types_at l.initial.told.items x) (told_up_to l.number l.node (λ n. types_of_node l.by_place l.number l.tree n) x)
