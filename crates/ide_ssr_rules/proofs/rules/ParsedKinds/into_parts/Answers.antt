use Rattle.std.proofs.Common.{All, ap, subst}
use Rattle.ide_ssr_rules.specs.Patterns.{AreReadOnce}
use Rattle.ide_ssr_rules.specs.Rules.{Rule}
use Rattle.ide_ssr_rules.proofs.rules.ParsedKinds.into_parts.Goals as goal

pub returns-clause-kinds : goal.returns-clause-kinds
returns-clause-kinds c = ap (λ (rule : Rule). rule.kinds) c.self.view_is

pub returns-clause-once : goal.returns-clause-once
returns-clause-once c = subst (λ (rule : Rule). All (AreReadOnce rule.names) rule.kinds) c.self.view_is c.self.invariant.once
