use Rattle.std.proofs.Common.{◌≤◌, ◌++◌, length, ap, ◌∙◌, arith, refl}
use Rattle.std.proofs.lemmas.List.{take_all}
use Rattle.std.specs.List.{filter_map}
use Rattle.std.proofs.lemmas.Option.{slice_get_read}
use Rattle.std.specs.Option.{option_map, option_to_list}
use Rattle.ssr_base_trees.specs.declared.ids.NodeId.{NodeId}
use Rattle.ssr_facts_rows.specs.declared.places.PlaceRow.{PlaceRow}
use Rattle.ssr_facts.specs.Private.Nodes.{at_place}
use Rattle.ssr_facts.proofs.Lists.{filter_map_one, append_none}
use Rattle.ssr_facts.proofs.nodes.at_nodes.Goals as goal
use Rattle.ssr_facts.proofs.nodes.at_nodes.Goals.{in-Some+in_ok-push, in_default}

pub loop-place-preserved : goal.loop-place-preserved
loop-place-preserved g c =
    let f = λ (row : PlaceRow × g.row.V.Denot). option_map (λ (node : NodeId). (node, row.1)) (at_place c.args.nodes.now row.0) in
    let item = c.loop-place-item.result in
    let told = c.loop-place.told.items in
    let at = slice_get_read c.args.rows.now _ c.loop-place.place-index item refl (omega arith) c.loop-place-item.is in
    elim c.match-get.branch [
      | in-Some+in_ok-push w ↦
          filter_map_one f c.args.rows.now c.loop-place.place-index item told c.match-get.told.items at c.loop-place.invariant
          (ap (λ v. v.items) w.told-is ∙ w.in_ok-push.ensures.items
          ∙ ap (λ o. told ++ option_to_list (option_map (λ (node : NodeId). (node, item.1)) o)) w.in-Some.ensures.value)
      | in_default w ↦
          filter_map_one f c.args.rows.now c.loop-place.place-index item told c.match-get.told.items at c.loop-place.invariant
          (ap (λ v. v.items) w.told-is ∙ append_none told
          ∙ ap (λ o. told ++ option_to_list (option_map (λ (node : NodeId). (node, item.1)) o)) w.in_default.ensures.value)
    ]

pub returns : goal.returns
returns g c =
    let all : length c.args.rows.now ≤ c.loop-place.place-index = omega arith in
    c.loop-place.invariant
    ∙ ap (filter_map (λ (row : PlaceRow × g.row.V.Denot). option_map (λ (node : NodeId). (node, row.1)) (at_place c.args.nodes.now row.0)))
    (take_all c.loop-place.place-index c.args.rows.now all)
