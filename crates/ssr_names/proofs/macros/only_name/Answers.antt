use Rattle.std.proofs.Common.{◌≡◌, length, sym, arith}
use Rattle.ssr_names.proofs.WholePaths.{only_one}
use Rattle.ssr_names.proofs.macros.only_name.Goals as goal

pub returns-in-Some : goal.returns-in-Some
returns-in-Some c =
    let count : length c.args.names.now ≡ 1 = omega arith in
    only_one c.args.names.now c.in-Some.name.now count (sym c.in-Some.ensures.value)
