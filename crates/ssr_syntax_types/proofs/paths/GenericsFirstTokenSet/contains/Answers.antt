use Rattle.std.proofs.Common.{rules}
use Rattle.ssr_syntax_types.proofs.paths.GenericsFirstTokenSet.contains.Goals as goal

pub returns-in-L_ANGLE : goal.returns-in-L_ANGLE
returns-in-L_ANGLE c = search rules steps 200000
