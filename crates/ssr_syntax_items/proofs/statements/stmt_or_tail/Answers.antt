use Rattle.std.proofs.Common.{rules}
use Rattle.ssr_syntax_items.specs.Statements.{stmt_or_tail}
use Rattle.ssr_syntax_items.proofs.statements.stmt_or_tail.Goals as goal

pub returns-else-at : goal.returns-else-at
unfolding stmt_or_tail
returns-else-at g c = search rules steps 3000000
