use Rattle.std.proofs.Common.{rules}
use Rattle.ssr_facts_rows.proofs.places.span.Goals as goal

pub returns : goal.returns
returns c = search rules steps 200000

pub returns-in_err-end : goal.returns-in_err-end
returns-in_err-end c = search rules steps 200000

pub returns-in_err-start : goal.returns-in_err-start
returns-in_err-start c = search rules steps 200000
