use Rattle.std.proofs.Common.{◌≡◌, ℕ, ◌<◌, ◌+◌, ◌-◌, ◌==◌, ◌&&◌, false}
use Rattle.ssr_syntax_tree.specs.Syntax.{node_count}
use Rattle.ssr_syntax_tree.specs.Places.{node_of, start_of, end_of}
use Rattle.ide_ssr_rewriting.proofs.rendering.is_node.Given as goal

abbrev pub invariant-loop-node : goal.invariant-loop-node
invariant-loop-node l = (n : ℕ) → n < l.node
    → (l.front + start_of l.tree (node_of l.tree n) == l.from && l.front + end_of l.tree (node_of l.tree n) == l.to) ≡ false

abbrev pub decreases-loop-node : goal.decreases-loop-node
decreases-loop-node l = 1 + node_count l.tree.children - l.node
