use Rattle.std.proofs.Common.{rules}
use Rattle.ssr_syntax.proofs.reading.check_length.Goals as goal

pub returns : goal.returns
returns c = search rules steps 200000

pub returns-then-text : goal.returns-then-text
returns-then-text c = search rules steps 200000
