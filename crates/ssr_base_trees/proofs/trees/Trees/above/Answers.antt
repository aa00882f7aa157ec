use Rattle.std.proofs.Common.{rules}
use Rattle.ssr_base_trees.proofs.trees.Trees.above.Goals as goal

pub returns-in-Some : goal.returns-in-Some
returns-in-Some c = search rules steps 200000

pub returns-in-None : goal.returns-in-None
returns-in-None c = search rules steps 200000
