use Rattle.ssr_reports.proofs.Gaining.{gains_one, gains_join}
use Rattle.ssr_reports.proofs.json_lines.push_placeholders.Goals as goal

pub returns : goal.returns
returns c = gains_join _ _ _ _ _ (gains_one _ _ _ _ c.in_ok-key.ensures) (gains_join _ _ _ _ _ (gains_one _ _ _ _ c.in_ok-begin_array.ensures) (gains_join _ _ _ _ _ c.in_ok-push_all_held.ensures ((gains_one _ _ _ _ c.in_ok-end_array.ensures))))
