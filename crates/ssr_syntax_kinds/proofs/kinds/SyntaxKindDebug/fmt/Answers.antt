use Rattle.std.proofs.Common.{rules}
use Rattle.ssr_syntax_kinds.proofs.kinds.SyntaxKindDebug.fmt.Goals as goal

pub returns : goal.returns
returns g c = search rules
