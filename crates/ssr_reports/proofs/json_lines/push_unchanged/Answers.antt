use Rattle.ssr_reports.proofs.Gaining.{gains_join}
use Rattle.ssr_reports.proofs.json_lines.push_unchanged.Goals as goal

pub returns : goal.returns
returns c = gains_join _ _ _ _ _ c.in_ok-push_number.ensures c.in_ok-push_number-2.ensures
