use Rattle.std.proofs.Common.{sym}
use Rattle.ssr_base_trees.proofs.Numbers.{nesting_of_file}
use Rattle.ssr_base_trees.proofs.trees.Trees.nesting.Goals as goal

pub returns-in-None : goal.returns-in-None
returns-in-None c = sym (nesting_of_file c.args.self.now c.args.tree c.in-None.ensures.none)
