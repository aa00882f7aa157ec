use Rattle.std.proofs.Common.{◌≡◌, cond, ltb, None}
use Rattle.ssr_facts_rows.specs.declared.places.PlaceRow.{PlaceRow}
use Rattle.ssr_facts.specs.Nodes.{node_at}
use Rattle.ssr_facts.specs.Private.Nodes.{at_place}
use Rattle.ssr_facts.proofs.nodes.nodes_by_place.Given as goal

abbrev pub invariant-loop-number : goal.invariant-loop-number
invariant-loop-number l = (place : PlaceRow) → at_place l.nodes place ≡ cond (ltb place.tree l.number) (node_at l.workspace l.kind place) None
