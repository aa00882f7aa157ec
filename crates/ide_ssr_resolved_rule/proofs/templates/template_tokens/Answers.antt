use Rattle.std.proofs.Common.{arith}
use Rattle.ide_ssr_resolved_rule.proofs.TemplateTables.{told_none, told_more}
use Rattle.ide_ssr_resolved_rule.proofs.templates.template_tokens.Goals as goal

pub loop-place-init : goal.loop-place-init
loop-place-init c = told_none c.args.names.now c.args.paths.now c.args.tree.now _ _ (omega arith) c.in_ok-table.ensures

pub loop-place-preserved : goal.loop-place-preserved
loop-place-preserved c =
    told_more c.args.names.now c.args.paths.now c.args.tree.now _ _ _ _ _ (omega arith) (omega arith) c.loop-place.invariant c.mark_path.ensures.long c.mark_path.ensures.marked
