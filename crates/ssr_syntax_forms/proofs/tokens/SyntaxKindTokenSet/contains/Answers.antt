use Rattle.std.proofs.Common.{rules}
use Rattle.ssr_syntax_forms.proofs.tokens.SyntaxKindTokenSet.contains.Goals as goal

pub returns : goal.returns
returns c = search rules steps 184000
