use Rattle.std.proofs.Common.{rules}
use Rattle.ssr_syntax_types.specs.Types.{paren_type}
use Rattle.ssr_syntax_types.proofs.types.paren_type.Goals as goal

pub returns : goal.returns
unfolding paren_type
returns g c = rw c.in_ok-expect.ensures (search (rules, c.complete.ensures) steps 74000)
