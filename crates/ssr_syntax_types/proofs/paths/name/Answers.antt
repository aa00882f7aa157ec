use Rattle.std.proofs.Common.{rules}
use Rattle.ssr_syntax_types.specs.Paths.{name}
use Rattle.ssr_syntax_types.proofs.paths.name.Goals as goal

pub returns : goal.returns
unfolding name
returns g c = rw c.in_ok-expect.ensures (search (rules, rw c.start-m.ensures at c.complete.ensures) steps 74000)
