use Rattle.ssr_reports.proofs.Gaining.{gains_one, gains_join}
use Rattle.ssr_reports.proofs.json_lines.push_held.Goals as goal

pub returns : goal.returns
returns c = gains_join _ _ _ _ _ (gains_one _ _ _ _ c.in_ok-begin_object.ensures) (gains_join _ _ _ _ _ c.in_ok-push_text.ensures (gains_join _ _ _ _ _ c.in_ok-push_number.ensures (gains_join _ _ _ _ _ c.in_ok-push_number-2.ensures (gains_join _ _ _ _ _ c.in_ok-push_text-2.ensures ((gains_one _ _ _ _ c.in_ok-end_object.ensures))))))
