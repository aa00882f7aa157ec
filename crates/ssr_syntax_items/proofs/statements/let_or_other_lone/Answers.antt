use Rattle.std.proofs.Common.{rules}
use Rattle.ssr_syntax_items.specs.Statements.{let_or_other_lone}
use Rattle.ssr_syntax_items.proofs.statements.let_or_other_lone.Goals as goal

pub returns-then-at : goal.returns-then-at
unfolding let_or_other_lone
returns-then-at g c = search rules steps 3000000
