use Rattle.std.proofs.Common.{arith, length, sym, ◌≤◌}
use Rattle.std.proofs.lemmas.Option.{slice_get_past}
use Rattle.ssr_syntax_kinds.proofs.token_rows.TokenRows.get.Goals as goal

pub returns-else-number-len : goal.returns-else-number-len
returns-else-number-len c =
    let past : length c.args.self.now ≤ c.args.number = omega (arith, c.len.ensures) in
    sym (slice_get_past c.args.self.now c.args.number past)
