use Rattle.std.proofs.Common.{rules}
use Rattle.ssr_syntax_forms.proofs.Ahead.{two_next}
use Rattle.ssr_syntax_forms.proofs.parser.Parser.at_two.Goals as goal

pub returns-then-at_any : goal.returns-then-at_any
returns-then-at_any g c = search (rules, two_next) steps 200000

pub returns-else-at_any : goal.returns-else-at_any
returns-else-at_any g c = search (rules, two_next) steps 130000
