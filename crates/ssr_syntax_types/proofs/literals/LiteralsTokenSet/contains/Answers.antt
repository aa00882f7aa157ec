use Rattle.std.proofs.Common.{rules}
use Rattle.ssr_syntax_types.specs.Literals.{literals}
use Rattle.ssr_syntax_types.proofs.literals.LiteralsTokenSet.contains.Goals as goal

pub returns-in-INT_NUMBER : goal.returns-in-INT_NUMBER
unfolding literals
returns-in-INT_NUMBER c = search rules steps 1700000
