use Rattle.std.proofs.Common.{◌∙◌}
use Rattle.std.proofs.lemmas.Result.{err_from_is_err_and}
use Rattle.ide_ssr_rules.proofs.Chains.{constraints_untested, template_constrained, uses_checked}
use Rattle.ide_ssr_rules.proofs.rules.check_uses.Goals as goal

pub returns-in_err-check_tested : goal.returns-in_err-check_tested
returns-in_err-check_tested c =
    let p = err_from_is_err_and c.from_residual.result c.from_residual.ensures.1 in
    rw (p.1, p.2) (constraints_untested _ _ _ _ c.in_err-check_tested.ensures)

pub returns-in_err-check_unconstrained : goal.returns-in_err-check_unconstrained
returns-in_err-check_unconstrained c =
    let p = err_from_is_err_and c.from_residual-in_err-check_unconstrained.result c.from_residual-in_err-check_unconstrained.ensures.1 in
    rw (p.1, p.2) (template_constrained _ _ _ _ c.in_ok-check_tested.ensures c.in_err-check_unconstrained.ensures)

pub returns : goal.returns
returns c =
    uses_checked _ _ _ _ _ _ c.in_ok-check_tested.ensures c.in_ok-check_unconstrained.ensures c.in_ok-names.ensures
    (c.as_slice.ensures ∙ c.in_ok-used.ensures) c.check_defined.ensures
