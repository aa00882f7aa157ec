use Rattle.std.proofs.Common.{rules}
use Rattle.ssr_syntax_types.specs.TokenTrees.{token_tree_item}
use Rattle.ssr_syntax_types.proofs.token_trees.token_tree_item.Goals as goal

pub returns-else-at_any : goal.returns-else-at_any
unfolding token_tree_item
returns-else-at_any g c = search rules steps 380000
