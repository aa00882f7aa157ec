use Rattle.ide_ssr_resolved_rule.specs.Private.TemplateTables.{TellsFrom}
use Rattle.ide_ssr_resolved_rule.proofs.templates.template_tokens.Given as goal

abbrev pub invariant-loop-place : goal.invariant-loop-place
invariant-loop-place l = TellsFrom l.names l.paths l.tree l.place l.table.items
