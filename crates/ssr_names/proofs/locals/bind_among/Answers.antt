use Rattle.std.proofs.Common.{◌<◌, length, get_or, sym, ◌∙◌, subst}
use Rattle.ssr_base_trees.specs.declared.ids.NodeId.{NodeId}
use Rattle.ssr_base_trees.specs.Workspace.{trees, node_id}
use Rattle.ssr_names.specs.Private.Locals.{BindAmong}
use Rattle.ssr_names.proofs.Climbing.{get_again, take_whole, none_in}
use Rattle.ssr_names.proofs.Binding.{stays_bound, now_bound, bind_none, bind_one}
use Rattle.ssr_names.proofs.locals.bind_among.Goals as goal

abbrev none : NodeId
none = node_id 0 0

pub loop-node-init : goal.loop-node-init
loop-node-init c = record { kept = λ function name had. had; bound = λ function had is_one. absurd (none_in function had) }

pub loop-node-preserved-then-not-is_function_at : goal.loop-node-preserved-then-not-is_function_at
loop-node-preserved-then-not-is_function_at c =
    let nodes = c.args.nodes.now in
    let l = c.loop-node in
    let node = get_or nodes l.node-index none in
    let within : l.node-index < length nodes = c.loop-node-test.true in
    record {
      kept = l.invariant.kept;
      bound = bind_none (trees c.args.trees.now) nodes l.node-index node within (get_again nodes l.node-index none node within) c.args.name l.bound (sym c.is_function_at.ensures ∙ c.if-not-is_function_at.true) l.invariant.bound;
    }

pub loop-node-preserved : goal.loop-node-preserved
loop-node-preserved c =
    let nodes = c.args.nodes.now in
    let l = c.loop-node in
    let node = get_or nodes l.node-index none in
    let within : l.node-index < length nodes = c.loop-node-test.true in
    let updates = c.in_ok-insert.ensures.updates in
    let stays = stays_bound l.bound c.insert.new.self node c.args.name updates in
    record {
      kept = λ function name had. stays function name (l.invariant.kept function name had);
      bound = bind_one (trees c.args.trees.now) nodes l.node-index node within (get_again nodes l.node-index none node within) c.args.name l.bound c.insert.new.self stays
          (now_bound l.bound c.insert.new.self node c.args.name updates) l.invariant.bound;
    }

pub returns-clause-bound : goal.returns-clause-bound
returns-clause-bound c =
    let nodes = c.args.nodes.now in
    let l = c.loop-node in
    subst (λ ns. BindAmong (trees c.args.trees.now) l.bound ns c.args.name) (take_whole nodes l.node-index c.loop-node-test.false) l.invariant.bound
