use Rattle.std.proofs.Common.{◌≡◌, ◌≤◌, length, map}
use Rattle.ssr_base_trees.specs.Origins.{plain_origin}
use Rattle.ssr_base_trees.specs.Private.Covers.{CoversFrom}
use Rattle.ssr_base_trees.proofs.covers.covers.Given as goal

abbrev pub invariant-loop-left : goal.invariant-loop-left
invariant-loop-left l = record {
  within : l.left ≤ length l.covers.items;
  counted : length l.covers.items ≡ l.count;
  known : CoversFrom l.tree (map plain_origin l.origins) l.left l.covers.items;
}

abbrev pub decreases-loop-left : goal.decreases-loop-left
decreases-loop-left l = l.left
