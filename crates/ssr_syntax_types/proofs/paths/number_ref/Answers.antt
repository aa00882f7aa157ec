use Rattle.std.proofs.Common.{rules}
use Rattle.ssr_syntax_types.specs.Paths.{number_ref}
use Rattle.ssr_syntax_types.proofs.paths.number_ref.Goals as goal

pub returns-in_err-expect : goal.returns-in_err-expect
unfolding number_ref
returns-in_err-expect g c = search rules steps 2200000

pub returns : goal.returns
unfolding number_ref
returns g c = rw c.in_ok-expect.ensures (search (rules, rw c.start-m.ensures at c.complete.ensures) steps 74000)
