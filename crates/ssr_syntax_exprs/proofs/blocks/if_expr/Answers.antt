use Rattle.std.proofs.Common.{rules}
use Rattle.ssr_syntax_exprs.specs.Blocks.{if_expr}
use Rattle.ssr_syntax_forms.proofs.Shared.{run_decide}
use Rattle.ssr_syntax_exprs.proofs.blocks.if_expr.Goals as goal

pub returns : goal.returns
unfolding if_expr
returns g c = search (rules, run_decide)
