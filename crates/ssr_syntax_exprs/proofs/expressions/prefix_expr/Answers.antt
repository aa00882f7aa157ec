use Rattle.std.proofs.Common.{rules}
use Rattle.ssr_syntax_exprs.specs.Expressions.{prefix_expr}
use Rattle.ssr_syntax_exprs.proofs.expressions.prefix_expr.Goals as goal

pub returns : goal.returns
unfolding prefix_expr
returns g c = search rules steps 3000000
