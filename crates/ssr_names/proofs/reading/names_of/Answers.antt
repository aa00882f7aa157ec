use Rattle.ssr_names.proofs.Binding.{nothing_told}
use Rattle.ssr_names.proofs.reading.names_of.Goals as goal

pub returns-clause-local : goal.returns-clause-local
returns-clause-local c = λ trees all. nothing_told trees c.args.rows.known all
