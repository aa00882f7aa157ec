use Rattle.std.proofs.Common.{rules}
use Rattle.ssr_syntax_tree.proofs.tree.Tree.range.Goals as goal

pub returns : goal.returns
returns c = search rules steps 600000
