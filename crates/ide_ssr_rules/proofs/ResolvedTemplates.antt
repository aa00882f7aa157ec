-- What a rule resolves to has a template in each kind.
use Rattle.std.proofs.Common.{◌≡◌, ℕ, List, All, Ok, subst}
use Rattle.std.specs.Prelude.{IsSome}
use Rattle.ssr_syntax_kinds.specs.declared.reach.Reach.{Reach}
use Rattle.ssr_syntax_kinds.specs.declared.reach.Reach.TheVariants.{Stated}
use Rattle.ssr_base_trees.specs.declared.ids.ScopeId.{ScopeId}
use Rattle.ssr_base_trees.specs.Meanings.{Meanings}
use Rattle.ide_ssr_rules.specs.Rules.{Rule, rule_reading, rule_reading_of}
use Rattle.ide_ssr_rules.proofs.Templates.{HasTemplate, rule_has}
use Rattle.ide_ssr_resolved_rule.specs.Resolved.{ResolvedRule}
use Rattle.ide_ssr_rules.specs.Resolved.{resolved_kinds}
use Rattle.ide_ssr_rules.proofs.ResolvedUses.{resolved_all, resolved_like}

abbrev IsReplacing : ResolvedRule → Type 0
IsReplacing kind = IsSome kind.template

pub kinds_have_templates : (m : Meanings) (scope : ScopeId) (rule : Rule) (kinds : List ResolvedRule)
    → resolved_kinds m scope rule.names rule.constraints rule.kinds ≡ Ok kinds → All HasTemplate rule.kinds → All (λ kind. IsSome kind.template) kinds
kinds_have_templates m scope rule kinds resolved have =
    resolved_all m scope rule.names rule.constraints HasTemplate IsReplacing rule.kinds kinds
    (λ kind one is had. subst IsReplacing (resolved_like m scope rule.names rule.constraints kind one is).same had) resolved have

pub have_templates_of : (reach : Reach) (m : Meanings) (scope : ScopeId) (text : List ℕ) (rule : Rule) (kinds : List ResolvedRule)
    → rule_reading_of reach text ≡ Ok rule → resolved_kinds m scope rule.names rule.constraints rule.kinds ≡ Ok kinds
    → All (λ kind. IsSome kind.template) kinds
have_templates_of reach m scope text rule kinds is resolved = kinds_have_templates m scope rule kinds resolved (rule_has reach text rule is)

-- of the stated language
pub have_templates : (m : Meanings) (scope : ScopeId) (text : List ℕ) (rule : Rule) (kinds : List ResolvedRule) → rule_reading text ≡ Ok rule
    → resolved_kinds m scope rule.names rule.constraints rule.kinds ≡ Ok kinds → All (λ kind. IsSome kind.template) kinds
unfolding rule_reading
have_templates m scope text rule kinds is resolved = have_templates_of Stated m scope text rule kinds is resolved
