use Rattle.std.proofs.Common.{rules}
use Rattle.ssr_syntax_types.specs.TokenTrees.{paren_or_bracket_tree}
use Rattle.ssr_syntax_types.proofs.token_trees.paren_or_bracket_tree.Goals as goal

pub returns-else-at : goal.returns-else-at
unfolding paren_or_bracket_tree
returns-else-at g c = search rules steps 2200000
