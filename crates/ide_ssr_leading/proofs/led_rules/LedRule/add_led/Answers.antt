use Rattle.std.proofs.Common.{◌<◌, length, get_or, sym, subst, arith}
use Rattle.ssr_base_trees.specs.declared.ids.NodeId.{NodeId}
use Rattle.ssr_base_trees.specs.Workspace.{trees, node_id}
use Rattle.ide_ssr_leading.specs.Private.LedRules.{AreLedTo, AreFoundAt}
use Rattle.ide_ssr_leading.proofs.Adding.{get_again, take_whole, at_more, at_all}
use Rattle.ide_ssr_leading.proofs.led_rules.LedRule.add_led.Goals as goal

abbrev none : NodeId
none = node_id 0 0

pub loop-node-preserved : goal.loop-node-preserved
loop-node-preserved g c =
    let led = c.args.self.now in
    let nodes = c.deref-node-items.result.now in
    let l = c.loop-node in
    let node = get_or nodes l.node-index none in
    let within : l.node-index < length nodes = c.loop-node-test.true in
    record {
      found =
          at_more led.workspace.now (g.S.Semantics.meanings c.args.semantics.now) led.context.now led.rule.now led.place nodes l.node-index node
          c.args.found.now.items l.found.items c.add_at.new.found.items within (get_again nodes l.node-index none node within)
          l.invariant.found c.in_ok-add_at.ensures.found;
      count = omega (arith, c.add_at.ensures.count, l.invariant.count);
      tried = omega (arith, c.in_ok-add_at.ensures.tried, l.invariant.tried);
    }

pub returns-clause-found : goal.returns-clause-found
returns-clause-found g c =
    let led = c.args.self.now in
    let m = g.S.Semantics.meanings c.args.semantics.now in
    let nodes = c.deref-node-items.result.now in
    let l = c.loop-node in
    at_all led.workspace.now m led.context.now led.rule.now led.place led.depth c.args.usages.now nodes c.args.found.now.items l.found.items
    (subst (AreLedTo (trees led.workspace.now) led.depth c.args.usages.now) (sym c.deref-node-items.ensures.value) c.in_ok-nodes_led_to.ensures.nodes)
    (subst (λ ns. AreFoundAt led.workspace.now m led.context.now led.rule.now led.place ns c.args.found.now.items l.found.items)
    (take_whole nodes l.node-index c.loop-node-test.false) l.invariant.found)
