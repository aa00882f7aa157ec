use Rattle.std.proofs.Common.{rules}
use Rattle.ssr_base_trees.proofs.edit.ApplyErrorDisplay.fmt.Goals as goal

pub returns : goal.returns
returns g c = search rules steps 1600000
