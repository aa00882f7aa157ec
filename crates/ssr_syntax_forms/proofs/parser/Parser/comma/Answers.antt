use Rattle.std.proofs.Common.{rules}
use Rattle.ssr_syntax_forms.proofs.parser.Parser.comma.Goals as goal

pub returns-then-at : goal.returns-then-at
returns-then-at g c = search rules steps 3600000

pub returns-then-at_any : goal.returns-then-at_any
returns-then-at_any g c = search rules steps 200000

pub returns-else-at_any : goal.returns-else-at_any
returns-else-at_any g c = search rules steps 200000
