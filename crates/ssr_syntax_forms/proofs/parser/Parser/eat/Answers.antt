use Rattle.std.proofs.Common.{rules}
use Rattle.ssr_syntax_forms.proofs.parser.Parser.eat.Goals as goal

pub returns-then-at : goal.returns-then-at
returns-then-at c = search rules steps 3600000

pub returns-else-at : goal.returns-else-at
returns-else-at c = search rules steps 142000
