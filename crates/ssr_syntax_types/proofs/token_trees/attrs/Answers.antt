use Rattle.std.proofs.Common.{rules}
use Rattle.ssr_syntax_types.specs.TokenTrees.{attrs}
use Rattle.ssr_syntax_types.proofs.token_trees.attrs.Goals as goal

pub returns : goal.returns
unfolding attrs
returns g c = search rules steps 2200000
