use Rattle.std.proofs.Common.{rules}
use Rattle.ssr_base_trees.proofs.edit.TextEdit.iter.Goals as goal

pub returns-clause-items : goal.returns-clause-items
returns-clause-items c = search rules steps 1000000
