use Rattle.std.proofs.Common.{rules}
use Rattle.ssr_syntax_forms.proofs.parser.Parser.at.Goals as goal

pub returns : goal.returns
returns c = search rules steps 130000
