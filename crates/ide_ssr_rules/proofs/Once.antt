-- Rules that are searched once.
use Rattle.std.proofs.Common.{◌≡◌, ℕ, List, All, Ok, true, false, take}
use Rattle.std.specs.Prelude.{IsSome, if◌then◌else◌}
use Rattle.std.proofs.lemmas.List.Elements.{All-take}
use Rattle.ssr_syntax_kinds.specs.declared.reach.Reach.{Reach}
use Rattle.ssr_syntax_kinds.specs.declared.reach.Reach.TheVariants.{Stated}
use Rattle.ssr_base_trees.specs.declared.ids.ScopeId.{ScopeId}
use Rattle.ssr_base_trees.specs.Meanings.{Meanings}
use Rattle.ide_ssr_resolved_rule.specs.Resolved.{ResolvedRule}
use Rattle.ide_ssr_rules.specs.declared.kinds.ParsedRule.{ParsedRule}
use Rattle.ide_ssr_rules.specs.Resolved.{resolved_kinds}
use Rattle.ide_ssr_rules.specs.Rules.{Rule, is_placeholder, once, rule_reading, rule_reading_of}
use Rattle.ide_ssr_rules.proofs.ResolvedTemplates.{kinds_have_templates}
use Rattle.ide_ssr_rules.proofs.Templates.{HasTemplate, rule_has}

-- what holds of all kinds holds of those that are searched
pub all_once : (P : ParsedRule → Type 0) (rule : Rule) → All P rule.kinds → All P (once rule).kinds
all_once P rule all = elim (is_placeholder rule.names rule.kinds) as (λ b. All P (if b then take 1 rule.kinds else rule.kinds)) [
  | true ↦ All-take P 1 rule.kinds all
  | false ↦ all
]

-- what a rule that is searched once resolves to has a template in each kind
pub have_templates_once_of : (reach : Reach) (m : Meanings) (scope : ScopeId) (text : List ℕ) (rule : Rule) (kinds : List ResolvedRule)
    → rule_reading_of reach text ≡ Ok rule → resolved_kinds m scope rule.names rule.constraints (once rule).kinds ≡ Ok kinds
    → All (λ kind. IsSome kind.template) kinds
have_templates_once_of reach m scope text rule kinds is resolved =
    kinds_have_templates m scope (once rule) kinds resolved (all_once HasTemplate rule (rule_has reach text rule is))

-- of the stated language
pub have_templates_once : (m : Meanings) (scope : ScopeId) (text : List ℕ) (rule : Rule) (kinds : List ResolvedRule) → rule_reading text ≡ Ok rule
    → resolved_kinds m scope rule.names rule.constraints (once rule).kinds ≡ Ok kinds → All (λ kind. IsSome kind.template) kinds
unfolding rule_reading
have_templates_once m scope text rule kinds is resolved = have_templates_once_of Stated m scope text rule kinds is resolved
