use Rattle.std.proofs.Common.{ap, sym}
use Rattle.ssr_syntax.specs.Expansions.{goal_of_expansion}
use Rattle.ssr_syntax.proofs.expansions.ExpansionKind.goal.Goals as goal

pub returns-in-Stmts : goal.returns-in-Stmts
returns-in-Stmts c = sym (ap goal_of_expansion c.in-Stmts.is)
