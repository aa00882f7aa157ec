use Rattle.std.proofs.Common.{◌≡◌, take}
use Rattle.std.specs.Option.{option_or}
use Rattle.ssr_syntax_tree.specs.Places.{nodes_of}
use Rattle.ssr_facts_rows.specs.declared.places.PlaceRow.{PlaceRow}
use Rattle.ssr_facts.specs.Private.Nodes.{at_place, found_among}
use Rattle.ssr_facts.proofs.nodes.add_nodes.Given as goal

abbrev pub invariant-loop-node : goal.invariant-loop-node
invariant-loop-node l =
    (place : PlaceRow) → at_place l.nodes place ≡ option_or (at_place l.initial.nodes place) (found_among l.number l.tree l.kind place (take l.node (nodes_of l.tree)))
