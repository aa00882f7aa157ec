use Rattle.std.proofs.Common.{rules}
use Rattle.ssr_syntax_exprs.specs.Atoms.{path_or_record}
use Rattle.ssr_syntax_exprs.proofs.atoms.path_or_record.Goals as goal

pub returns-in-BeforeBlock : goal.returns-in-BeforeBlock
unfolding path_or_record
returns-in-BeforeBlock g c = search rules steps 3000000
