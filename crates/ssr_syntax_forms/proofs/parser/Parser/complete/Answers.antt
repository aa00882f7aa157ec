use Rattle.std.proofs.Common.{rules}
use Rattle.ssr_syntax_forms.proofs.parser.Parser.complete.Goals as goal

pub returns : goal.returns
returns c = search rules steps 440000
