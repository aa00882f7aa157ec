use Rattle.std.proofs.Common.{arith, sym, ap, ◌∙◌}
use Rattle.std.specs.Prelude.{Vec}
use Rattle.std.specs.Global.{Global}
use Rattle.std.specs.Option.{option_map}
use Rattle.ssr_base_trees.specs.declared.ids.TypeId.{TypeId}
use Rattle.ssr_facts_rows.specs.declared.places.PlaceRow.{PlaceRow}
use Rattle.ssr_facts.specs.Private.Nodes.{at_place, types_at}
use Rattle.ssr_facts.proofs.Places.{nodes_told, nodes_untold, all_told}
use Rattle.ssr_facts.proofs.types.types_of_nodes.Goals as goal
use Rattle.ssr_facts.proofs.types.types_of_nodes.Goals.{in-Some+in_ok-add_types, in_default}

pub loop-number-preserved : goal.loop-number-preserved
loop-number-preserved c =
    let tell = λ (place : PlaceRow). option_map (λ (v : Vec TypeId Global). v.items) (at_place c.args.by_place.now place) in
    λ x. elim c.match-tree.branch [
      | in-Some+in_ok-add_types w ↦
          nodes_told c.args.workspace.now c.loop-number.number tell x (types_at c.loop-number.told.items x) (types_at c.match-tree.told.items x) (c.loop-number.invariant x)
          w.in-Some.tree.now (sym w.in-Some.ensures) (ap (λ v. types_at v.items x) w.told-is ∙ w.in_ok-add_types.ensures x)
      | in_default w ↦
          nodes_untold c.args.workspace.now c.loop-number.number tell x (types_at c.loop-number.told.items x) (types_at c.match-tree.told.items x) (c.loop-number.invariant x)
          (sym w.in_default.ensures) (ap (λ v. types_at v.items x) w.told-is)
    ]

pub returns : goal.returns
returns c =
    λ x. all_told c.args.workspace.now (λ (place : PlaceRow). option_map (λ (v : Vec TypeId Global). v.items) (at_place c.args.by_place.now place)) x c.loop-number.number
    (types_at c.loop-number.told.items x) (omega (arith, c.loop-number-test.false, c.tree_count-count.ensures)) (c.loop-number.invariant x)
