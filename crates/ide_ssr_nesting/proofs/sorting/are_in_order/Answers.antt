use Rattle.std.proofs.Common.{arith}
use Rattle.ssr_base_trees.specs.Workspace.{trees}
use Rattle.ide_ssr_nesting.proofs.Sorted.{neighbours_in_order}
use Rattle.ide_ssr_nesting.proofs.sorting.are_in_order.Goals as goal

pub returns : goal.returns
returns c = λ _. neighbours_in_order (trees c.args.workspace.now) c.args.found.now (λ n d less. c.loop-i.invariant n d (omega arith))
