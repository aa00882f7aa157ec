use Rattle.std.proofs.Common.{◌≡◌, take}
use Rattle.std.specs.List.{filter_map}
use Rattle.std.specs.Option.{option_map}
use Rattle.ssr_facts.specs.Private.Nodes.{at_place}
use Rattle.ssr_facts.proofs.nodes.at_nodes.Given as goal

abbrev pub invariant-loop-place : goal.invariant-loop-place
invariant-loop-place g l =
    l.told.items ≡ filter_map (λ row. option_map (λ node. (node, row.1)) (at_place l.nodes row.0)) (take l.place-index l.rows)
