use Rattle.std.proofs.Common.{rules}
use Rattle.ssr_syntax_types.specs.Types.{variadic}
use Rattle.ssr_syntax_types.proofs.types.variadic.Goals as goal

pub returns-in_err-expect : goal.returns-in_err-expect
unfolding variadic
returns-in_err-expect g c = λ m. search (rules, c.in_err-expect.ensures) steps 3000000
