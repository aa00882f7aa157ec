use Rattle.std.proofs.Common.{◌<◌, List, false, length, get_or, ap, subst}
use Rattle.ssr_base_trees.specs.Workspace.{trees, node_id}
use Rattle.ssr_names_items.specs.declared.table.Namespace.TheVariants as namespace
use Rattle.ssr_names.specs.declared.words.Binder.{Binder}
use Rattle.ssr_names.specs.Private.Locals.{BindAll, BindAround, sure_binder}
use Rattle.ssr_names.proofs.Climbing.{get_again, take_whole, none_in}
use Rattle.ssr_names.proofs.Binding.{bind_next}
use Rattle.ssr_names.proofs.resolving.Resolver.bound.Goals as goal

abbrev none : Binder
none = record { node = node_id 0 0; name = record { 0 = 0 }; namespace = namespace.Type; is_plain = false }

pub loop-binder-init : goal.loop-binder-init
loop-binder-init c = λ node name had. absurd (none_in (sure_binder node name) had)

pub loop-binder-preserved : goal.loop-binder-preserved
loop-binder-preserved c =
    let ts = trees c.args.self.now.source.now.trees.now in
    let binders = c.args.binders.now in
    let l = c.loop-binder in
    let binder = get_or binders l.binder-index none in
    let within : l.binder-index < length binders = c.loop-binder-test.true in
    let new = c.add_bound.new.bound in
    bind_next ts binders l.binder-index binder within (get_again binders l.binder-index none binder within) l.bound new c.in_ok-add_bound.ensures.kept
    (λ node name same.
    subst (λ (b : Binder). BindAround ts new b.node b.name) same
    (c.in_ok-add_bound.ensures.bound (ap (λ (b : Binder). b.is_plain) same) (ap (λ (b : Binder). b.namespace) same)))
    l.invariant

pub returns : goal.returns
returns c =
    let binders = c.args.binders.now in
    let l = c.loop-binder in
    subst (λ (bs : List Binder). BindAll (trees c.args.self.now.source.now.trees.now) l.bound bs) (take_whole binders l.binder-index c.loop-binder-test.false) l.invariant
