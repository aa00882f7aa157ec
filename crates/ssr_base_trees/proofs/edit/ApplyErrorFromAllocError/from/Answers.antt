use Rattle.std.proofs.Common.{refl}
use Rattle.ssr_base_trees.proofs.edit.ApplyErrorFromAllocError.from.Goals as goal

pub returns : goal.returns
returns c = refl
