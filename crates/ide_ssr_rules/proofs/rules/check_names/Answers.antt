use Rattle.std.proofs.lemmas.Result.{err_from_is_err_and}
use Rattle.ide_ssr_rules.proofs.Chains.{pattern_reserved, sides_checked}
use Rattle.std.proofs.Common.{refl}
use Rattle.ide_ssr_rules.proofs.rules.check_names.Goals as goal

pub returns-in_err-check_reserved : goal.returns-in_err-check_reserved
returns-in_err-check_reserved c stays too =
    let p = err_from_is_err_and c.from_residual-in_err-check_reserved.result c.from_residual-in_err-check_reserved.ensures.1 in
    rw (p.1, p.2) (pattern_reserved _ _ _ _ stays too c.in_ok-names.ensures c.in_err-check_reserved.ensures)

pub returns : goal.returns
returns c stays too = sides_checked _ _ _ _ _ stays too c.in_ok-names.ensures c.in_ok-check_reserved.ensures refl c.check_reserved-2.ensures
