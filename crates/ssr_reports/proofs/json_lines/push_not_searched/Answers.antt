use Rattle.ssr_reports.proofs.Gaining.{gains_one, gains_join}
use Rattle.ssr_reports.proofs.json_lines.push_not_searched.Goals as goal

pub returns : goal.returns
returns c =
    gains_join _ _ _ _ _ (gains_one _ _ _ _ c.in_ok-begin_object.ensures) (gains_join _ _ _ _ _ (gains_one _ _ _ _ c.in_ok-key.ensures)
    (gains_join _ _ _ _ _ (gains_one _ _ _ _ c.in_ok-begin_object-2.ensures) (gains_join _ _ _ _ _ c.in_ok-push_range.ensures
    (gains_join _ _ _ _ _ (gains_one _ _ _ _ c.in_ok-end_object.ensures) (gains_one _ _ _ _ c.in_ok-end_object-2.ensures)))))
