use Rattle.std.proofs.Common.{rules}
use Rattle.ssr_syntax_forms.proofs.parser.Parser.expect_at.Goals as goal

pub returns : goal.returns
returns g c = search rules steps 100000

pub returns-then-not-at_any : goal.returns-then-not-at_any
returns-then-not-at_any g c = search rules steps 120000
