use Rattle.ssr_syntax_shorts.proofs.SolidChildren.{IsShaping}
use Rattle.ssr_syntax_shorts.proofs.shapes.shape_of.Given as goal

abbrev pub invariant-loop-child : goal.invariant-loop-child
invariant-loop-child l = IsShaping l.tree l.fn.node.0 l.shape l.child-iterator
