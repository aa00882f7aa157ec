use Rattle.std.proofs.Common.{rules}
use Rattle.ssr_syntax_tree.proofs.tree.Tree.below.Goals as goal

pub returns : goal.returns
returns c = search rules steps 200000
