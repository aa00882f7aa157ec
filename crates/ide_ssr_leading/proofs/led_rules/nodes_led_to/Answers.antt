use Rattle.std.proofs.Common.{◌+◌, ◌<◌, length, take, get_or, sym, ap, ◌∙◌, subst, arith}
use Rattle.std.proofs.lemmas.List.{length_push}
use Rattle.std.specs.BTreeSet.{contains}
use Rattle.ssr_base_trees.specs.declared.ids.NodeId.{NodeId}
use Rattle.ssr_base_trees.specs.contracts.ids.NodeIdOrd.TheImpl as id_order
use Rattle.ssr_base_trees.specs.Workspace.{trees, node_id}
use Rattle.ide_ssr_leading.specs.Private.LedRules.{AreLedTo}
use Rattle.ide_ssr_leading.proofs.Adding.{AreSoFar, get_again, take_whole, not_false, led_nowhere, led_again, led_newly}
use Rattle.ide_ssr_leading.proofs.led_rules.nodes_led_to.Goals as goal

abbrev none : NodeId
none = node_id 0 0

pub loop-usage-preserved-in_default : goal.loop-usage-preserved-in_default
loop-usage-preserved-in_default c =
    let usages = c.args.usages.now in
    let l = c.loop-usage in
    let usage = get_or usages l.usage-index none in
    let within : l.usage-index < length usages = c.loop-usage-test.true in
    let few = l.invariant.few in
    record {
      led =
          led_nowhere (trees c.args.workspace.now) c.args.depth usages l.usage-index usage within (get_again usages l.usage-index none usage within) l.known l.nodes.items
          (sym c.in_default.ensures) l.invariant.led;
      few = omega arith;
    }

pub loop-usage-preserved-then-not-branch : goal.loop-usage-preserved-then-not-branch
loop-usage-preserved-then-not-branch c =
    let usages = c.args.usages.now in
    let l = c.loop-usage in
    let usage = get_or usages l.usage-index none in
    let within : l.usage-index < length usages = c.loop-usage-test.true in
    let few = l.invariant.few in
    record {
      led =
          led_again (trees c.args.workspace.now) c.args.depth usages l.usage-index usage within (get_again usages l.usage-index none usage within) l.known c.insert.new.self
          l.nodes.items c.in-Some.node (sym c.in-Some.ensures)
          (not_false (contains ((id_order.ghosts).cmp) l.known c.in-Some.node) (sym c.if-not-branch.true ∙ c.in_ok-insert.ensures.added))
          c.in_ok-insert.ensures.updates.0 l.invariant.led;
      few = omega arith;
    }

pub loop-usage-preserved : goal.loop-usage-preserved
loop-usage-preserved c =
    let usages = c.args.usages.now in
    let l = c.loop-usage in
    let usage = get_or usages l.usage-index none in
    let within : l.usage-index < length usages = c.loop-usage-test.true in
    let few = l.invariant.few in
    record {
      led =
          subst (AreSoFar (trees c.args.workspace.now) c.args.depth (take (l.usage-index + 1) usages) c.insert.new.self) (sym c.in_ok-push.ensures.items)
          (led_newly (trees c.args.workspace.now) c.args.depth usages l.usage-index usage within (get_again usages l.usage-index none usage within) l.known c.insert.new.self
          l.nodes.items c.in-Some.node (sym c.in-Some.ensures) c.in_ok-insert.ensures.updates.0 l.invariant.led);
      few = omega (arith, ap length c.in_ok-push.ensures.items, length_push l.nodes.items c.in-Some.node);
    }

pub returns-clause-nodes : goal.returns-clause-nodes
returns-clause-nodes c =
    let usages = c.args.usages.now in
    let l = c.loop-usage in
    subst (λ us. AreLedTo (trees c.args.workspace.now) c.args.depth us l.nodes.items) (take_whole usages l.usage-index c.loop-usage-test.false) l.invariant.led.led
