use Rattle.std.proofs.Common.{rules}
use Rattle.ssr_syntax_rows.proofs.solid.lengthened.Goals as goal

pub returns : goal.returns
returns c = search rules steps 200000

pub returns-in_err-next : goal.returns-in_err-next
returns-in_err-next c = search rules steps 200000
