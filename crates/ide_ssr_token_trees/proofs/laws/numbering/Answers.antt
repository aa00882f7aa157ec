use Rattle.ide_ssr_token_trees.proofs.Numbers.{bindings_later}
use Rattle.ide_ssr_token_trees.proofs.laws.numbering.Goals as goal

pub returns : goal.returns
returns c = bindings_later
