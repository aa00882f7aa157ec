use Rattle.std.proofs.Common.{rules}
use Rattle.ssr_base_trees.proofs.trees.Trees.file_count.Goals as goal

pub returns : goal.returns
returns c = search rules steps 200000
