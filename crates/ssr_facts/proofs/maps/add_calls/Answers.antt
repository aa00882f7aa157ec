use Rattle.std.proofs.Common.{◌∙◌, sym, ap}
use Rattle.std.specs.Map.{lookup}
use Rattle.ssr_base_trees.specs.declared.semantics.Res.TheVariants as res
use Rattle.ssr_base_trees.specs.Workspace.{same_id}
use Rattle.ssr_facts.specs.Tables.{callee}
use Rattle.ssr_facts.specs.Usages.{uses_of}
use Rattle.ssr_facts.proofs.Uses.{use_more, use_none}
use Rattle.ssr_facts.proofs.Keys.{found_node}
use Rattle.ssr_facts.proofs.maps.add_calls.Goals as goal

pub loop-node-preserved-in-Continue-1 : goal.loop-node-preserved-in-Continue-1
loop-node-preserved-in-Continue-1 c =
    λ r. use_more (λ node. callee (lookup (same_id node) c.args.methods.now.entries)) r (res.Def c.in-Some-get.method.now.def) (uses_of c.args.usages.now r)
    (uses_of c.loop-node.usages r) (uses_of c.add.new.groups r) c.loop-node.yielded c.in-Some.node
    (ap callee (found_node c.args.methods.now c.in-Some.node ∙ sym c.in-Some-get.ensures.value)) (c.loop-node.invariant r) (c.in_ok-add.ensures r)

pub loop-node-preserved : goal.loop-node-preserved
loop-node-preserved c =
    λ r. use_none (λ node. callee (lookup (same_id node) c.args.methods.now.entries)) r (uses_of c.args.usages.now r) (uses_of c.loop-node.usages r)
    c.loop-node.yielded c.in-Some.node (ap callee (found_node c.args.methods.now c.in-Some.node ∙ sym c.in_default.ensures.value)) (c.loop-node.invariant r)
