use Rattle.std.proofs.Common.{rules}
use Rattle.ssr_syntax_types.specs.TokenTrees.{curly_tree}
use Rattle.ssr_syntax_types.proofs.token_trees.curly_tree.Goals as goal

pub returns-in_err-expect-2 : goal.returns-in_err-expect-2
unfolding curly_tree
returns-in_err-expect-2 g c = search rules steps 3000000

pub returns : goal.returns
unfolding curly_tree
returns g c = search rules steps 3000000
