use Rattle.std.proofs.Common.{rules}
use Rattle.ssr_syntax_forms.proofs.parser.fn.Parser.repeated.repeated_while.Goals as goal

pub returns : goal.returns
returns g c = search rules steps 100000
