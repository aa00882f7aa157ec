use Rattle.std.proofs.Common.{rules}
use Rattle.ssr_syntax_forms.proofs.Ahead.{four_next}
use Rattle.ssr_syntax_forms.proofs.parser.Parser.at_four.Goals as goal

pub returns-then-at_three : goal.returns-then-at_three
returns-then-at_three g c = search (rules, four_next) steps 480000

pub returns-else-at_three : goal.returns-else-at_three
returns-else-at_three g c = search (rules, four_next) steps 600000
