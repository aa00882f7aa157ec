use Rattle.ide_ssr.proofs.Entries.{has_rule, not_added}
use Rattle.ide_ssr.proofs.from_comment.finder_with.Goals as goal

pub returns-in-Ok-add_rule-clause-some : goal.returns-in-Ok-add_rule-clause-some
returns-in-Ok-add_rule-clause-some g c =
    has_rule g.S.Semantics.meanings c.args.workspace.now c.args.semantics.now c.args.position c.new.result.items c.args.rule c.in-Ok.finder c.add_rule.new.self
    c.in-Ok-add_rule.field-0 c.new.ensures.items c.in-Ok.ensures c.in-Ok-add_rule.ensures.answer

pub returns-clause-none : goal.returns-clause-none
returns-clause-none g c =
    not_added g.S.Semantics.meanings c.args.workspace.now c.args.semantics.now c.args.position c.new.result.items c.args.rule c.in-Ok.finder c.add_rule.new.self
    c.in-Err-add_rule.error c.refused-in-Err-add_rule.result c.new.ensures.items c.in-Ok.ensures c.in-Err-add_rule.ensures.answer c.refused-in-Err-add_rule.ensures.message
