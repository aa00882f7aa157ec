use Rattle.std.proofs.Common.{arith}
use Rattle.ssr_syntax_shorts.proofs.Steps.{size_few}
use Rattle.ssr_syntax_shorts.proofs.reading.size_of.Goals as goal

pub returns-else-is_trivia-clause-few : goal.returns-else-is_trivia-clause-few
returns-else-is_trivia-clause-few c = omega (arith, c.size_of_kind.ensures, size_few c.token_kind-kind.result)
