use Rattle.std.proofs.Common.{sym}
use Rattle.ssr_base_trees.proofs.Numbers.{file_of_file}
use Rattle.ssr_base_trees.proofs.trees.Trees.file_of.Goals as goal

pub returns-in-None : goal.returns-in-None
returns-in-None c = sym (file_of_file c.args.self.now c.args.tree c.in-None.ensures.none)
