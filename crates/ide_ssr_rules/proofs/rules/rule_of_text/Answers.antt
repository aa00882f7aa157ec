use Rattle.std.proofs.lemmas.Result.{err_from_is_err_and}
use Rattle.ide_ssr_rules.proofs.Chains.{split_refused, pattern_refused, template_refused, rule_read}
use Rattle.ide_ssr_rules.proofs.Uses.{side_new}
use Rattle.ide_ssr_rules.proofs.rules.rule_of_text.Goals as goal

pub returns-in_err-pattern : goal.returns-in_err-pattern
returns-in_err-pattern c =
    let p = err_from_is_err_and c.from_residual.result c.from_residual.ensures.1 in
    rw (p.1, p.2) (split_refused c.args.reach _ _ c.in_err-pattern.ensures)

pub returns-in_err-pattern-2 : goal.returns-in_err-pattern-2
returns-in_err-pattern-2 c =
    let p = err_from_is_err_and c.from_residual-in_err-pattern-2.result c.from_residual-in_err-pattern-2.ensures.1 in
    rw (p.1, p.2) (pattern_refused c.args.reach _ _ _ c.in_ok-pattern.ensures c.in_err-pattern-2.ensures.value)

pub returns-in_err-template : goal.returns-in_err-template
returns-in_err-template c =
    let p = err_from_is_err_and c.from_residual-in_err-template.result c.from_residual-in_err-template.ensures.1 in
    rw (p.1, p.2) (template_refused c.args.reach _ _ _ _ c.in_ok-pattern.ensures c.in_ok-pattern-2.ensures.value c.in_err-template.ensures.value)

pub returns : goal.returns
returns c =
    rule_read c.args.reach _ _ _ _ _ _ _ c.in_ok-pattern.ensures c.in_ok-pattern-2.ensures.value c.in_ok-template.ensures.value c.as_slice.ensures.value c.as_slice-2.ensures.value c.rule_of.ensures

pub rule_of-requires-clause-pattern_new : goal.rule_of-requires-clause-pattern_new
rule_of-requires-clause-pattern_new c = rw c.as_slice.ensures.value (side_new _ _ c.in_ok-pattern-2.ensures.value)

pub rule_of-requires-clause-template_new : goal.rule_of-requires-clause-template_new
rule_of-requires-clause-template_new c = rw c.as_slice-2.ensures.value (side_new _ _ c.in_ok-template.ensures.value)
