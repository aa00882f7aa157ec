use Rattle.std.proofs.Common.{rules}
use Rattle.ssr_syntax_types.specs.Types.{path_type}
use Rattle.ssr_syntax_types.proofs.types.path_type.Goals as goal

pub returns-in_err-path : goal.returns-in_err-path
unfolding path_type
returns-in_err-path g c = search rules steps 500000

pub returns : goal.returns
unfolding path_type
returns g c = rw c.in_ok-path.ensures (search (rules, rw c.start-m.ensures at c.complete.ensures) steps 74000)
