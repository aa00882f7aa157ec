use Rattle.ssr_syntax_kinds.specs.declared.reach.Reach.TheVariants.{Stated}
use Rattle.ssr_syntax.proofs.TextLaws.{one_file}
use Rattle.ssr_syntax.proofs.laws.files.Goals as goal

pub returns : goal.returns
returns c = record { one = one_file Stated; one_of = one_file }
