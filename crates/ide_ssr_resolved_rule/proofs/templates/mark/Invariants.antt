use Rattle.std.proofs.Common.{◌≡◌, ℕ, ◌<◌, length, get_or}
use Rattle.ide_ssr_resolved_rule.specs.declared.templates.TemplateToken.TheVariants as t
use Rattle.ide_ssr_resolved_rule.proofs.TemplateTables.{marked}
use Rattle.ide_ssr_resolved_rule.proofs.templates.mark.Given as goal

abbrev pub invariant-loop-token : goal.invariant-loop-token
invariant-loop-token l = record {
  long : length l.table.items ≡ length l.initial.table.items;
  marked : (n : ℕ) → get_or l.table.items n t.Spelled ≡ marked l.initial.table.items l.first l.token l.place n;
  none : l.past < l.first → l.token ≡ l.first;
}
