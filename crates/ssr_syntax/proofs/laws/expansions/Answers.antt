use Rattle.ssr_syntax_kinds.specs.declared.reach.Reach.TheVariants.{Stated}
use Rattle.ssr_syntax.proofs.ExpansionLaws.{one_expansion}
use Rattle.ssr_syntax.proofs.laws.expansions.Goals as goal

pub returns : goal.returns
returns c = record { one = one_expansion Stated; one_of = one_expansion }
