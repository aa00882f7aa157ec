use Rattle.ssr_reports.proofs.Gaining.{gains_join}
use Rattle.ssr_reports.proofs.json_lines.push_change.Goals as goal

pub returns : goal.returns
returns c = gains_join _ _ _ _ _ c.in_ok-push_text.ensures (gains_join _ _ _ _ _ c.in_ok-push_new.ensures (c.in_ok-push_flag.ensures))
