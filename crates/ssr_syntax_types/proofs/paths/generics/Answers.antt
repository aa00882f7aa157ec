use Rattle.std.proofs.Common.{rules}
use Rattle.ssr_syntax_types.specs.Paths.{generics}
use Rattle.ssr_syntax_types.proofs.paths.generics.Goals as goal

pub returns-in-InExpr : goal.returns-in-InExpr
unfolding generics
returns-in-InExpr g c = search rules steps 380000
