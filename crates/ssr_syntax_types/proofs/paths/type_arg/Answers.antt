use Rattle.std.proofs.Common.{rules}
use Rattle.ssr_syntax_types.specs.Paths.{type_arg}
use Rattle.ssr_syntax_types.proofs.paths.type_arg.Goals as goal

pub returns : goal.returns
unfolding type_arg
returns g c = rw c.in_ok-read.ensures (search (rules, rw c.start-m.ensures at c.complete.ensures) steps 74000)
