use Rattle.ide_ssr_token_trees.proofs.Held.{trees_held, trees_behind}
use Rattle.ide_ssr_token_trees.proofs.Bound.{trees_bound}
use Rattle.ide_ssr_token_trees.proofs.laws.holding.Goals as goal

pub returns-clause-held : goal.returns-clause-held
returns-clause-held c = trees_held

pub returns-clause-behind : goal.returns-clause-behind
returns-clause-behind c = trees_behind

pub returns-clause-bound : goal.returns-clause-bound
returns-clause-bound c = trees_bound
