use Rattle.std.proofs.Common.{ap, subst, sym, ◌∙◌}
use Rattle.std.specs.Option.{IfSome}
use Rattle.ide_ssr_resolved_rule.specs.Private.Placeholders.{placeholders}
use Rattle.ide_ssr_resolved_rule.specs.Placeholders.{token_placeholders}
use Rattle.ide_ssr_resolved_rule.specs.Private.ReceiverTables.{TellsReceiversOf}
use Rattle.ide_ssr_resolved_rule.specs.Private.TemplateTables.{TellsTokens}
use Rattle.ide_ssr_resolved_rule.proofs.resolved.ResolvedRule.new.Goals as goal

pub invariant_of-result : goal.invariant_of-result
invariant_of-result c = record {
  in_pattern = c.in_ok-tables.ensures.in_pattern ∙ ap (λ names. placeholders names c.args.parts.pattern) (sym c.requires.same);
  in_pattern_tokens = c.in_ok-tables.ensures.in_pattern_tokens ∙ ap (λ names. token_placeholders names c.args.parts.pattern) (sym c.requires.same);
  in_template =
      subst (λ names. IfSome c.args.parts.template (λ tree. TellsTokens names c.args.parts.template_paths.items tree c.in_ok-tables.tables.in_template.items))
      (sym c.requires.same) c.in_ok-tables.ensures.in_template;
  receivers = subst (λ names. TellsReceiversOf names c.args.parts.template c.in_ok-tables.tables.receivers.items) (sym c.requires.same) c.in_ok-tables.ensures.receivers;
  has_pattern = c.requires.pattern;
  res_by_node = c.in_ok-tables.ensures.res_by_node;
  has_template = c.requires.template;
  has_calls = c.requires.calls;
  has_eligible = c.requires.eligible;
}
