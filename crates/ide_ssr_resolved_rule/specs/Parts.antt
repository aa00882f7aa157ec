-- The resolved rule that has these parts.
use Rattle.std.specs.Prelude.{map, string_bytes}
use Rattle.ide_ssr_resolved_rule.specs.declared.parts.RuleParts.{RuleParts}
use Rattle.ide_ssr_resolved_rule.specs.Resolved.{ResolvedRule}

abbrev pub rule_of : RuleParts → ResolvedRule
rule_of parts = record {
  names = map string_bytes parts.names.items;
  constraints = parts.constraints.items;
  reach = parts.reach;
  category = parts.category;
  pattern = parts.pattern;
  template = parts.template;
  pattern_paths = parts.pattern_paths.items;
  template_paths = parts.template_paths.items;
  qualified_calls = parts.qualified_calls.items;
  eligible_paths = parts.eligible_paths.items;
}
