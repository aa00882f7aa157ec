use Rattle.std.proofs.lemmas.Result.{err_from_is_err_and}
use Rattle.ide_ssr_rules.proofs.Chains.{alone_refused, alone_read}
use Rattle.ide_ssr_rules.proofs.Uses.{side_new}
use Rattle.ide_ssr_rules.proofs.rules.pattern_of_text.Goals as goal

pub returns-in_err-pattern : goal.returns-in_err-pattern
returns-in_err-pattern c =
    let p = err_from_is_err_and c.from_residual.result c.from_residual.ensures.1 in
    rw (p.1, p.2) (alone_refused c.args.reach _ _ _ c.trim.ensures.trim c.in_err-pattern.ensures.value)

pub returns : goal.returns
returns c = alone_read c.args.reach _ _ _ _ _ c.trim.ensures.trim c.in_ok-pattern.ensures.value c.as_slice.ensures.value c.rule_of.ensures

pub rule_of-requires-clause-pattern_new : goal.rule_of-requires-clause-pattern_new
rule_of-requires-clause-pattern_new c = rw c.as_slice.ensures.value (side_new _ _ c.in_ok-pattern.ensures.value)
