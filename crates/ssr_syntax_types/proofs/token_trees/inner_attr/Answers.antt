use Rattle.std.proofs.Common.{rules}
use Rattle.ssr_syntax_types.specs.TokenTrees.{inner_attr}
use Rattle.ssr_syntax_types.proofs.token_trees.inner_attr.Goals as goal

pub returns-in_err-read : goal.returns-in_err-read
unfolding inner_attr
returns-in_err-read g c = search rules steps 3000000

pub returns : goal.returns
unfolding inner_attr
returns g c = search rules steps 3000000
