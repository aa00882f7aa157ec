use Rattle.std.proofs.Common.{rules}
use Rattle.ssr_syntax_kinds.proofs.kinds.SyntaxKind.is_trivia.Goals as goal

pub returns-in_default : goal.returns-in_default
returns-in_default c = search rules steps 2000000

pub returns-in-WHITESPACE : goal.returns-in-WHITESPACE
returns-in-WHITESPACE c = search rules steps 200000
