use Rattle.std.proofs.lemmas.Result.{err_from_is_err_and}
use Rattle.ide_ssr_rules.proofs.Chains.{pattern_glued, template_glued}
use Rattle.ide_ssr_rules.proofs.rules.side_texts.Goals as goal

pub returns-in_err-pattern_text-clause-refused : goal.returns-in_err-pattern_text-clause-refused
returns-in_err-pattern_text-clause-refused c =
    let p = err_from_is_err_and c.from_residual.result c.from_residual.ensures.1 in
    rw (p.1, p.2) (pattern_glued _ _ _ c.in_err-pattern_text.ensures.refused)

pub returns-in_err-template_text-clause-refused : goal.returns-in_err-template_text-clause-refused
returns-in_err-template_text-clause-refused c =
    let p = err_from_is_err_and c.from_residual-in_err-template_text.result c.from_residual-in_err-template_text.ensures.1 in
    rw (p.1, p.2) (template_glued _ _ _ c.in_ok-pattern_text.ensures.refused c.in_err-template_text.ensures.refused)

pub returns-in_err-check_names-clause-refused : goal.returns-in_err-check_names-clause-refused
returns-in_err-check_names-clause-refused c =
    let p = err_from_is_err_and c.from_residual-in_err-check_names.result c.from_residual-in_err-check_names.ensures.1 in
    rw (p.1, p.2) (c.in_err-check_names.ensures c.in_ok-pattern_text.ensures.refused c.in_ok-template_text.ensures.refused)

pub returns-clause-refused : goal.returns-clause-refused
returns-clause-refused c = c.in_ok-check_names.ensures c.in_ok-pattern_text.ensures.refused c.in_ok-template_text.ensures.refused
