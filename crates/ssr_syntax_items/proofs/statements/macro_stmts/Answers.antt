use Rattle.std.proofs.Common.{rules}
use Rattle.ssr_syntax_forms.proofs.Shared.{run_repeated_by}
use Rattle.ssr_syntax_items.specs.Statements.{macro_stmts}
use Rattle.ssr_syntax_items.proofs.statements.macro_stmts.Goals as goal

pub returns : goal.returns
unfolding macro_stmts
returns g c = search (rules, run_repeated_by) steps 3000000
