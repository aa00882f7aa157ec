use Rattle.std.proofs.Common.{◌≡◌, ◌+◌, ◌-◌}
use Rattle.ssr_syntax_tree.specs.Syntax.{node_count}
use Rattle.ssr_standing.specs.Private.Outlines.{left_of}
use Rattle.ssr_standing.proofs.outlines.Outline.find.Given as goal

abbrev pub invariant-loop-self : goal.invariant-loop-self
invariant-loop-self l = left_of l.self ≡ left_of l.fn.self

abbrev pub decreases-loop-self : goal.decreases-loop-self
decreases-loop-self l = (1 + node_count l.self.tree.now.children) - l.self.node
