use Rattle.ide_ssr_matching.proofs.Trivia.{trivia_left_out}
use Rattle.ide_ssr_matching.proofs.laws.trivia.Goals as goal

pub returns : goal.returns
returns c = trivia_left_out
