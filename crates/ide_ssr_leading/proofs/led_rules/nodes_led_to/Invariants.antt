use Rattle.std.proofs.Common.{◌≤◌, length, take}
use Rattle.ssr_base_trees.specs.Workspace.{trees}
use Rattle.ide_ssr_leading.proofs.Adding.{AreSoFar}
use Rattle.ide_ssr_leading.proofs.led_rules.nodes_led_to.Given as goal

abbrev pub invariant-loop-usage : goal.invariant-loop-usage
invariant-loop-usage l = record {
  led : AreSoFar (trees l.workspace) l.depth (take l.usage-index l.usages) l.known l.nodes.items;
  few : length l.nodes.items ≤ l.usage-index;
}
