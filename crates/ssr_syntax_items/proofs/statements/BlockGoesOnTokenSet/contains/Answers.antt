use Rattle.std.proofs.Common.{rules}
use Rattle.ssr_syntax_items.proofs.statements.BlockGoesOnTokenSet.contains.Goals as goal

pub returns-in-DOT : goal.returns-in-DOT
returns-in-DOT c = search rules steps 200000

pub returns-in_default : goal.returns-in_default
returns-in_default c = search rules steps 3000000
