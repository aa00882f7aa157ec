use Rattle.ssr_reports.proofs.Gaining.{gains_none, gains_more, gains_all}
use Rattle.ssr_reports.proofs.json_lines.push_all_held.Goals as goal

pub loop-held-init : goal.loop-held-init
loop-held-init c = gains_none _

pub loop-held-preserved : goal.loop-held-preserved
loop-held-preserved c =
    gains_more _ _ _ c.args.placeholders.now c.loop-held.held-index c.held-item.result c.loop-held-test.true c.held-item.is c.loop-held.invariant c.in_ok-push_held.ensures

pub returns : goal.returns
returns c = gains_all _ _ c.args.placeholders.now c.loop-held.held-index c.loop-held-test.false c.loop-held.invariant
