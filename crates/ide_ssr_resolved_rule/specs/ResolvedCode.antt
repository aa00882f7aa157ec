-- For the logic alone: how it stores a resolved rule. There is nothing to believe here.
use Rattle.std.specs.Prelude.{ℕ, List, Option, refl}
use Rattle.std.specs.Coded.{Coded, code_by, coded×, coded_list, coded_option, coded_ℕ}
use Rattle.ssr_syntax_kinds.specs.contracts.fragment.Fragment as fragment
use Rattle.ssr_syntax_kinds.specs.declared.fragment.Fragment.{Fragment}
use Rattle.ssr_syntax_kinds.specs.contracts.reach.Reach as reaches
use Rattle.ssr_syntax_kinds.specs.declared.reach.Reach.{Reach}
use Rattle.ssr_syntax_tree.specs.Syntax.{Syntax}
use Rattle.ssr_syntax_tree.specs.SyntaxCode.{syntax_code}
use Rattle.ide_ssr_resolved_rule.specs.contracts.constraints.Constraint as constraint
use Rattle.ide_ssr_resolved_rule.specs.declared.constraints.Constraint.{Constraint}
use Rattle.ide_ssr_resolved_rule.specs.contracts.used_paths.UsedPath as path
use Rattle.ide_ssr_resolved_rule.specs.declared.used_paths.UsedPath.{UsedPath}
use Rattle.ide_ssr_resolved_rule.specs.contracts.qualified_calls.QualifiedCall as call
use Rattle.ide_ssr_resolved_rule.specs.declared.qualified_calls.QualifiedCall.{QualifiedCall}
use Rattle.ide_ssr_resolved_rule.specs.Resolved.{ResolvedRule}

abbrev pub resolved_code : Coded ResolvedRule
resolved_code =
    code_by (List (List ℕ) × (List (List Constraint) × (Reach × (Fragment × (Syntax × (Option Syntax × (List UsedPath × (List UsedPath × (List QualifiedCall × List UsedPath)))))))))
    (coded× (coded_list (coded_list coded_ℕ))
    (coded× (coded_list (coded_list constraint.the_row.coded))
    (coded× reaches.the_row.coded
    (coded× fragment.the_row.coded
    (coded× syntax_code (coded× (coded_option syntax_code) (coded× (coded_list path.the_row.coded)
    (coded× (coded_list path.the_row.coded)
    (coded× (coded_list call.the_row.coded) (coded_list path.the_row.coded))))))))))
    (λ rule. (rule.names, (rule.constraints, (rule.reach, (rule.category, (rule.pattern, (rule.template, (rule.pattern_paths, (rule.template_paths, (rule.qualified_calls, rule.eligible_paths))))))))))
    (λ p. record {
      names = p.0;
      constraints = p.1.0;
      reach = p.1.1.0;
      category = p.1.1.1.0;
      pattern = p.1.1.1.1.0;
      template = p.1.1.1.1.1.0;
      pattern_paths = p.1.1.1.1.1.1.0;
      template_paths = p.1.1.1.1.1.1.1.0;
      qualified_calls = p.1.1.1.1.1.1.1.1.0;
      eligible_paths = p.1.1.1.1.1.1.1.1.1;
    }) (λ _. refl)
