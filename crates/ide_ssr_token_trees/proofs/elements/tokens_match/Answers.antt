use Rattle.std.proofs.Common.{rules}
use Rattle.ide_ssr_token_trees.proofs.elements.tokens_match.Goals as goal

pub returns-then-is : goal.returns-then-is
returns-then-is c = search rules steps 200000
