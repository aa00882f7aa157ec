use Rattle.std.proofs.Common.{rules}
use Rattle.ssr_syntax.specs.Grammar.{grammar}
use Rattle.ssr_syntax.proofs.grammar.read_form.Goals as goal

pub returns-in-Ty : goal.returns-in-Ty
unfolding grammar
returns-in-Ty g c = search rules steps 200000

pub returns-in-If : goal.returns-in-If
unfolding grammar
returns-in-If g c = search rules steps 200000
