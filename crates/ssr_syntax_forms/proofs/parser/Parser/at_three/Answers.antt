use Rattle.std.proofs.Common.{rules}
use Rattle.ssr_syntax_forms.proofs.Ahead.{three_next}
use Rattle.ssr_syntax_forms.proofs.parser.Parser.at_three.Goals as goal

pub returns-then-at_two : goal.returns-then-at_two
returns-then-at_two g c = search (rules, three_next) steps 240000

pub returns-else-at_two : goal.returns-else-at_two
returns-else-at_two g c = search (rules, three_next) steps 170000
