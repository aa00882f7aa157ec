use Rattle.std.proofs.Common.{◌≡◌, cond, ltb, None}
use Rattle.std.specs.Option.{option_map, option_and_then}
use Rattle.ssr_base_trees.specs.declared.ids.NodeId.{NodeId}
use Rattle.ssr_facts.specs.Nodes.{place_of}
use Rattle.ssr_facts.specs.Private.Nodes.{at_place, types_at}
use Rattle.ssr_facts.proofs.types.types_of_nodes.Given as goal

abbrev pub invariant-loop-number : goal.invariant-loop-number
invariant-loop-number l =
    (x : NodeId) → types_at l.told.items x
    ≡ cond (ltb x.tree l.number) (option_and_then (λ place. option_map (λ v. v.items) (at_place l.by_place place)) (place_of l.workspace x)) None
