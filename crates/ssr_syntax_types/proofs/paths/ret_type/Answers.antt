use Rattle.std.proofs.Common.{rules}
use Rattle.ssr_syntax_types.specs.Paths.{ret_type}
use Rattle.ssr_syntax_types.proofs.paths.ret_type.Goals as goal

pub returns-in_err-expect : goal.returns-in_err-expect
unfolding ret_type
returns-in_err-expect g c = search rules steps 2200000

pub returns-in_err-read : goal.returns-in_err-read
unfolding ret_type
returns-in_err-read g c = rw c.in_ok-expect.ensures (search rules steps 2800000)

pub returns : goal.returns
unfolding ret_type
returns g c = rw (c.in_ok-expect.ensures, c.in_ok-read.ensures) (search (rules, rw c.start-m.ensures at c.complete.ensures) steps 74000)
