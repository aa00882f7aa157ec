use Rattle.ssr_reports.proofs.Gaining.{gains_one, gains_join}
use Rattle.ssr_reports.proofs.json_lines.push_summary.Goals as goal

pub returns : goal.returns
returns c = gains_join _ _ _ _ _ (gains_one _ _ _ _ c.in_ok-begin_object.ensures) (gains_join _ _ _ _ _ (gains_one _ _ _ _ c.in_ok-key.ensures) (gains_join _ _ _ _ _ (gains_one _ _ _ _ c.in_ok-begin_object-2.ensures) (gains_join _ _ _ _ _ c.in_ok-push_number.ensures (gains_join _ _ _ _ _ c.in_ok-push_number-2.ensures (gains_join _ _ _ _ _ c.in_ok-push_number-3.ensures (gains_join _ _ _ _ _ c.in_ok-push_number-4.ensures (gains_join _ _ _ _ _ c.in_ok-push_unchanged.ensures (gains_join _ _ _ _ _ c.in_ok-push_number-5.ensures (gains_join _ _ _ _ _ c.in_ok-push_number-6.ensures (gains_join _ _ _ _ _ (gains_one _ _ _ _ c.in_ok-end_object.ensures) ((gains_one _ _ _ _ c.in_ok-end_object-2.ensures))))))))))))
