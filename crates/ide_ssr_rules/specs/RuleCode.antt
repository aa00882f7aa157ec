-- For the logic alone: how it stores a rule. There is nothing to believe here.
use Rattle.std.specs.Prelude.{ℕ, List, Option, refl}
use Rattle.std.specs.Coded.{Coded, code_by, coded×, coded_list, coded_option, coded_ℕ}
use Rattle.ssr_syntax_kinds.specs.contracts.fragment.Fragment as fragment
use Rattle.ssr_syntax_kinds.specs.declared.fragment.Fragment.{Fragment}
use Rattle.ssr_syntax_kinds.specs.contracts.reach.Reach as reaches
use Rattle.ssr_syntax_kinds.specs.declared.reach.Reach.{Reach}
use Rattle.ssr_syntax_tree.specs.Syntax.{Syntax}
use Rattle.ssr_syntax_tree.specs.SyntaxCode.{syntax_code}
use Rattle.ide_ssr_resolved_rule.specs.contracts.constraints.Constraint as constraint
use Rattle.ide_ssr_resolved_rule.specs.declared.constraints.Constraint.{Constraint}
use Rattle.ide_ssr_rules.specs.declared.kinds.ParsedRule.{ParsedRule}
use Rattle.ide_ssr_rules.specs.Rules.{Rule}

abbrev pub kind_code : Coded ParsedRule
kind_code =
    code_by (Reach × (Fragment × (Syntax × Option Syntax)))
    (coded× reaches.the_row.coded (coded× fragment.the_row.coded (coded× syntax_code (coded_option syntax_code))))
    (λ kind. (kind.reach, (kind.category, (kind.pattern, kind.template))))
    (λ p. record { reach = p.0; category = p.1.0; pattern = p.1.1.0; template = p.1.1.1 }) (λ _. refl)

abbrev pub rule_code : Coded Rule
rule_code =
    code_by (List (List ℕ) × (List (List Constraint) × List ParsedRule))
    (coded× (coded_list (coded_list coded_ℕ)) (coded× (coded_list (coded_list constraint.the_row.coded)) (coded_list kind_code)))
    (λ rule. (rule.names, (rule.constraints, rule.kinds))) (λ p. record { names = p.0; constraints = p.1.0; kinds = p.1.1 }) (λ _. refl)
