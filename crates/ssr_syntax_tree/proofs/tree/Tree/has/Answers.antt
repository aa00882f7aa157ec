use Rattle.std.proofs.Common.{rules}
use Rattle.ssr_syntax_tree.proofs.tree.Tree.has.Goals as goal

pub returns-in-Node : goal.returns-in-Node
returns-in-Node c = search rules steps 600000
