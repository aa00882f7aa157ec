use Rattle.std.proofs.Common.{rules}
use Rattle.ssr_syntax_exprs.specs.Expressions.{field_expr}
use Rattle.ssr_syntax_exprs.proofs.expressions.field_expr.Goals as goal

pub returns-in_err-refuse_at : goal.returns-in_err-refuse_at
unfolding field_expr
returns-in_err-refuse_at g c = search rules steps 3000000

pub returns : goal.returns
unfolding field_expr
returns g c = search rules steps 3000000
