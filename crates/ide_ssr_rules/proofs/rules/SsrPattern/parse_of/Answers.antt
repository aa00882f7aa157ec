use Rattle.std.proofs.lemmas.Result.{err_from_is_err_and}
use Rattle.ide_ssr_rules.proofs.rules.SsrPattern.parse_of.Goals as goal

pub returns : goal.returns
returns c = c.in_ok-parsed.ensures

pub returns-in_err-parsed : goal.returns-in_err-parsed
returns-in_err-parsed c =
    let p = err_from_is_err_and c.from_residual.result c.from_residual.ensures.1 in
    rw (p.1, p.2) c.in_err-parsed.ensures
