use Rattle.std.proofs.Common.{All, get_or, sym, subst}
use Rattle.ssr_base_trees.specs.declared.ids.NodeId.{NodeId}
use Rattle.ssr_base_trees.specs.Workspace.{trees}
use Rattle.ide_ssr_bindings.specs.declared.bindings.Binding.{Binding}
use Rattle.ide_ssr_bindings.specs.Found.{IsInRange, node_binding}
use Rattle.ide_ssr.proofs.ByStart.{start_is, starts_more}
use Rattle.ide_ssr.proofs.starts.starts.Goals as goal

no_binding : Binding
no_binding = node_binding 0 0

pub start_of-at-requires : goal.start_of-at-requires
unfolding no_binding
start_of-at-requires c =
    let ranged = subst (All (IsInRange (trees c.args.workspace.now) c.args.m.now.node)) (sym c.bindings-binding-items.ensures) c.requires in
    subst (λ (x : NodeId). IsInRange (trees c.args.workspace.now) x (get_or c.bindings-binding-items.result.now c.loop-place.place no_binding)) (sym c.node.ensures)
    (ranged c.loop-place.place no_binding c.loop-place-test.true)

pub loop-place-preserved : goal.loop-place-preserved
unfolding no_binding
loop-place-preserved c =
    starts_more c.args.workspace.now c.args.m.now c.loop-place.place c.loop-place.starts.items c.push.new.self.items c.start_of-at.result c.loop-place.invariant
    (start_is c.args.workspace.now c.args.m.now c.loop-place.place c.start_of-at.result c.node.result c.bindings-binding-items.result.now no_binding c.node.ensures
    c.bindings-binding-items.ensures c.loop-place-test.true c.start_of-at.ensures)
    c.in_ok-push.ensures.items
