use Rattle.std.proofs.Common.{arith, rules}
use Rattle.std.proofs.lemmas.Grind.{common_steps}
use Rattle.ssr_syntax_forms.proofs.parser.Parser.finish.Goals as goal

pub returns-then-is_empty : goal.returns-then-is_empty
returns-then-is_empty c = grind (arith, common_steps) steps 1300000

pub returns-else-is_empty : goal.returns-else-is_empty
returns-else-is_empty c = search rules steps 300000
