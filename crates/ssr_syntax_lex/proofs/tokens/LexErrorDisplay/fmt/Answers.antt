use Rattle.std.proofs.Common.{rules}
use Rattle.ssr_syntax_lex.proofs.tokens.LexErrorDisplay.fmt.Goals as goal

pub returns-in-Fault : goal.returns-in-Fault
returns-in-Fault g c = search rules steps 860000

pub returns-in-Memory : goal.returns-in-Memory
returns-in-Memory g c = search rules steps 1000000

pub returns-in-TooLong : goal.returns-in-TooLong
returns-in-TooLong g c = search rules steps 860000
