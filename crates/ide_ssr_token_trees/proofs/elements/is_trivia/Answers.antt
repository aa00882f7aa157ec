use Rattle.std.proofs.Common.{rules}
use Rattle.ide_ssr_token_trees.proofs.elements.is_trivia.Goals as goal

pub returns-in-Token : goal.returns-in-Token
returns-in-Token c = search rules steps 200000
