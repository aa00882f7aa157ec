use Rattle.std.proofs.Common.{rules}
use Rattle.ssr_syntax_lex.proofs.tokens.lex_rows.Goals as goal

pub returns : goal.returns
returns c = search rules steps 126000

pub returns-then-text : goal.returns-then-text
returns-then-text c = search rules steps 26000
