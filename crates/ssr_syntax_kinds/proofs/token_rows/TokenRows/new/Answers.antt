use Rattle.std.proofs.Common.{rules}
use Rattle.ssr_syntax_kinds.proofs.token_rows.TokenRows.new.Goals as goal

pub returns : goal.returns
returns c = search rules steps 200000

pub invariant_of-result : goal.invariant_of-result
invariant_of-result c = search rules steps 200000
