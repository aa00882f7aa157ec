use Rattle.std.proofs.Common.{ap, not, sym}
use Rattle.ide_ssr_resolved_rule.specs.Constraints.{contrary, holds_at}
use Rattle.ide_ssr_resolved_rule.proofs.constraints.Constraint.contrary.Goals as goal

pub returns-in-Literal-clause-value : goal.returns-in-Literal-clause-value
returns-in-Literal-clause-value c = sym (ap contrary c.in-Literal.is)

pub returns-in-Literal-clause-opposite : goal.returns-in-Literal-clause-opposite
returns-in-Literal-clause-opposite c kind = ap (λ one. not (holds_at kind one)) (sym c.in-Literal.is)
