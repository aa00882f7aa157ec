use Rattle.std.proofs.Common.{◌≡◌, ◌+◌, ◌^◌, ◌<◌}
use Rattle.ssr_syntax_tree.specs.Places.{HasNode, depth_at}
use Rattle.ssr_syntax_tree.proofs.tree.Tree.depth.Given as goal

abbrev pub invariant-loop-parent : goal.invariant-loop-parent
invariant-loop-parent l = record {
  has : HasNode l.self l.at;
  total : l.depth + depth_at l.self l.at ≡ depth_at l.self l.fn.node.0;
  small : l.depth + l.at < 2 ^ 32;
}

abbrev pub decreases-loop-parent : goal.decreases-loop-parent
decreases-loop-parent l = l.at
