use Rattle.std.proofs.Common.{◌≡◌, ◌+◌, ◌<◌, ℕ}
use Rattle.ssr_syntax_tree.specs.Places.{node_of}
use Rattle.ssr_standing.specs.Private.Runs.{IsFilled, shape_of}
use Rattle.ssr_standing.proofs.runs.have_same_nodes.Given as goal

abbrev pub invariant-loop-number : goal.invariant-loop-number
invariant-loop-number l = (k : ℕ) → 1 + k < l.number
    → (shape_of l.one.token (node_of l.one.tree.now (l.one.node.0 + (1 + k))) ≡ shape_of l.two.token (node_of l.two.tree.now (l.two.node.0 + (1 + k))))
    × IsFilled (node_of l.one.tree.now (l.one.node.0 + (1 + k)))
