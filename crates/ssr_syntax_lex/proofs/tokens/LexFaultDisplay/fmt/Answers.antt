use Rattle.std.proofs.Common.{rules}
use Rattle.ssr_syntax_lex.proofs.tokens.LexFaultDisplay.fmt.Goals as goal

pub returns : goal.returns
returns g c = search rules steps 220000
