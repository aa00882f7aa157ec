use Rattle.std.proofs.Common.{rules}
use Rattle.ssr_syntax_forms.proofs.parser.Parser.expect_any.Goals as goal

pub returns-in-Some : goal.returns-in-Some
returns-in-Some g c = search rules
