use Rattle.std.proofs.Common.{ℕ, ◌<◌, ◌≤◌}
use Rattle.ide_ssr_search.specs.Positions.{IsFunctionAround}
use Rattle.ide_ssr_search.proofs.positions.function_around.Given as goal

abbrev pub invariant-loop-node : goal.invariant-loop-node
invariant-loop-node l = record {
  before : l.left ≤ l.fn.node.0;
  none : (f : ℕ) → l.left < f → ¬ IsFunctionAround l.tree l.fn.node.0 f;
}

abbrev pub decreases-loop-node : goal.decreases-loop-node
decreases-loop-node l = l.left
