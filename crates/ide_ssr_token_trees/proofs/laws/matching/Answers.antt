use Rattle.ide_ssr_token_trees.proofs.Agreement.{tree_bindings-TreesMatch, TreesMatch-tree_bindings}
use Rattle.ide_ssr_token_trees.proofs.laws.matching.Goals as goal

pub returns-clause-found : goal.returns-clause-found
returns-clause-found c = tree_bindings-TreesMatch

pub returns-clause-complete : goal.returns-clause-complete
returns-clause-complete c = TreesMatch-tree_bindings
