use Rattle.std.proofs.Common.{◌≡◌, ℕ, ◌<◌, ◌+◌, ◌==◌, ◌&&◌, false}
use Rattle.ssr_syntax_tree.specs.Places.{node_of, start_of, end_of}
use Rattle.ssr_syntax_shorts.proofs.reading.is_node.Given as goal

abbrev pub invariant-loop-node : goal.invariant-loop-node
invariant-loop-node l = (n : ℕ) → n < l.node
    → (0 + start_of l.tree (node_of l.tree n) == l.from && 0 + end_of l.tree (node_of l.tree n) == l.to) ≡ false
