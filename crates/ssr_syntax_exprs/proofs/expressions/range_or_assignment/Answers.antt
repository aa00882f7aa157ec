use Rattle.std.proofs.Common.{rules}
use Rattle.ssr_syntax_exprs.specs.Expressions.{range_or_assignment}
use Rattle.ssr_syntax_exprs.proofs.expressions.range_or_assignment.Goals as goal

pub returns-in_err-range : goal.returns-in_err-range
unfolding range_or_assignment
returns-in_err-range g c = search rules steps 1000000
