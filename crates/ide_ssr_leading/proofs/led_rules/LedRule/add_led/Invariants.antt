use Rattle.std.proofs.Common.{◌+◌, ◌≤◌, take}
use Rattle.ide_ssr_search.specs.Tries.{AreTried}
use Rattle.ide_ssr_leading.specs.Private.LedRules.{AreFoundAt}
use Rattle.ide_ssr_leading.proofs.led_rules.LedRule.add_led.Given as goal

abbrev pub invariant-loop-node : goal.invariant-loop-node
invariant-loop-node g l = record {
  found : AreFoundAt l.self.workspace.now (g.S.Semantics.meanings l.semantics) l.self.context.now l.self.rule.now l.self.place (take l.node-index l.node-items) l.initial.found.items l.found.items;
  count : l.tries ≤ l.initial.tries + l.node-index;
  tried : AreTried l.initial.found.items l.found.items l.initial.tries l.tries;
}
