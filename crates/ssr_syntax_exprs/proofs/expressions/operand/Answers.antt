use Rattle.std.proofs.Common.{rules}
use Rattle.ssr_syntax_exprs.specs.Expressions.{operand}
use Rattle.ssr_syntax_exprs.proofs.expressions.operand.Goals as goal

pub returns : goal.returns
unfolding operand
returns g c = search rules steps 1000000
