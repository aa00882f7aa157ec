use Rattle.std.proofs.Common.{rules}
use Rattle.ssr_syntax_exprs.specs.Expressions.{operation}
use Rattle.ssr_syntax_exprs.proofs.expressions.operation.Goals as goal

pub returns-in_err-read : goal.returns-in_err-read
unfolding operation
returns-in_err-read g c = search rules steps 1000000

pub returns : goal.returns
unfolding operation
returns g c = search rules steps 3000000
