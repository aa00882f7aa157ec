use Rattle.std.proofs.Common.{rules}
use Rattle.ssr_syntax_exprs.specs.Blocks.{block_expr}
use Rattle.ssr_syntax_exprs.proofs.blocks.block_expr.Goals as goal

pub returns : goal.returns
unfolding block_expr
returns g c = rw c.in_ok-read.ensures (search (rules, rw c.start-m.ensures at c.complete.ensures) steps 100000)
