use Rattle.std.proofs.Common.{rules}
use Rattle.ssr_syntax_forms.proofs.parser.Parser.repeated_two.Goals as goal

pub returns : goal.returns
returns g c = search rules steps 560000
