use Rattle.std.proofs.Common.{◌∙◌, sym}
use Rattle.std.specs.Map.{lookup}
use Rattle.ssr_base_trees.specs.Workspace.{same_id}
use Rattle.ssr_facts.specs.Usages.{uses_of}
use Rattle.ssr_facts.proofs.Uses.{use_more, use_none}
use Rattle.ssr_facts.proofs.Keys.{found_node}
use Rattle.ssr_facts.proofs.maps.add_paths.Goals as goal

pub loop-node-preserved-in-Continue-1 : goal.loop-node-preserved-in-Continue-1
loop-node-preserved-in-Continue-1 c =
    λ r. use_more (λ node. lookup (same_id node) c.args.paths.now.entries) r c.in-Some-get.res.now (uses_of c.args.usages.now r)
    (uses_of c.loop-node.usages r) (uses_of c.add.new.groups r) c.loop-node.yielded c.in-Some.node
    (found_node c.args.paths.now c.in-Some.node ∙ sym c.in-Some-get.ensures.value) (c.loop-node.invariant r) (c.in_ok-add.ensures r)

pub loop-node-preserved : goal.loop-node-preserved
loop-node-preserved c =
    λ r. use_none (λ node. lookup (same_id node) c.args.paths.now.entries) r (uses_of c.args.usages.now r) (uses_of c.loop-node.usages r)
    c.loop-node.yielded c.in-Some.node (found_node c.args.paths.now c.in-Some.node ∙ sym c.in_default.ensures.value) (c.loop-node.invariant r)
