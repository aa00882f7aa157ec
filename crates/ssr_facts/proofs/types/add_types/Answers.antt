use Rattle.std.proofs.Common.{Some, sym, ap, ◌∙◌, cond, None}
use Rattle.std.specs.Prelude.{Vec}
use Rattle.std.specs.Global.{Global}
use Rattle.std.specs.Option.{option_map, option_or}
use Rattle.ssr_base_trees.specs.declared.ids.TypeId.{TypeId}
use Rattle.ssr_base_trees.specs.Workspace.{node_id, same_id}
use Rattle.ssr_facts.specs.Private.Nodes.{at_place, types_at, types_of_node}
use Rattle.ssr_facts.proofs.ByTree.{told_more, types_more, nothing_more}
use Rattle.ssr_facts.proofs.types.add_types.Goals as goal
use Rattle.ssr_facts.proofs.types.add_types.Goals.{in-Some+in_ok-from_slice+in_ok-push, in_default}

pub loop-node-preserved : goal.loop-node-preserved
loop-node-preserved c =
    let tree = c.args.tree.now in
    let n = c.loop-node.node in
    let by_place = c.args.by_place.now in
    let tell = types_of_node by_place c.args.number tree in
    let told = c.loop-node.told.items in
    let id = node_id c.args.number n in
    λ x. told_more c.args.number tell x n (types_at c.args.told.now.items x) (types_at told x) (types_at c.match-get.told.items x) (c.loop-node.invariant x)
    (elim c.match-get.branch [
      | in-Some+in_ok-from_slice+in_ok-push w ↦
          ap (λ v. types_at v.items x) w.told-is ∙ ap (λ rows. types_at rows x) w.in_ok-push.ensures.items
          ∙ types_more told id w.in_ok-from_slice.field-0 x
          ∙ ap (λ o. option_or (types_at told x) (cond (same_id x id) o None))
          (ap Some (w.in_ok-from_slice.ensures.items ∙ w.deref.ensures.value)
          ∙ ap (option_map (λ (v : Vec TypeId Global). v.items)) (w.in-Some.ensures.value ∙ ap (at_place by_place) c.place.ensures))
      | in_default w ↦
          ap (λ v. types_at v.items x) w.told-is
          ∙ nothing_more (types_at told x) (same_id x id) (tell n)
          (sym (ap (option_map (λ (v : Vec TypeId Global). v.items)) (w.in_default.ensures.value ∙ ap (at_place by_place) c.place.ensures)))
    ])
