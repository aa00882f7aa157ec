use Rattle.std.proofs.Common.{ℕ, ◌+◌, ◌<◌, ◌≤◌}
use Rattle.ssr_syntax_tree.specs.Places.{depth_at, node_of}
use Rattle.ssr_syntax_shorts.specs.Told.{depth_below}
use Rattle.ssr_syntax_shorts.proofs.reading.filled_depth.Given as goal

abbrev pub invariant-loop-number : goal.invariant-loop-number
invariant-loop-number l = (n : ℕ) → n < l.number → depth_at l.tree n + depth_below l.depth (node_of l.tree n).kind ≤ l.most
