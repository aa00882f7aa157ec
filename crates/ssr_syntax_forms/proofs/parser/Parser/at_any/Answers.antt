use Rattle.std.proofs.Common.{rules}
use Rattle.ssr_syntax_forms.proofs.Members.{at_next}
use Rattle.ssr_syntax_forms.proofs.parser.Parser.at_any.Goals as goal

pub returns : goal.returns
returns g c = search (rules, at_next) steps 184000
