use Rattle.std.proofs.Common.{rules}
use Rattle.ssr_syntax_exprs.proofs.atoms.BarsTokenSet.contains.Goals as goal

pub returns-in-PIPE : goal.returns-in-PIPE
returns-in-PIPE c = search rules steps 200000

pub returns-in_default : goal.returns-in_default
returns-in_default c = search rules steps 3000000
