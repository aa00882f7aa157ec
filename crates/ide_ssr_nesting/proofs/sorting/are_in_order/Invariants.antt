use Rattle.std.proofs.Common.{ℕ, suc, ◌<◌, get_or}
use Rattle.ssr_base_trees.specs.Workspace.{trees}
use Rattle.ide_ssr_bindings.specs.Found.{FoundMatch}
use Rattle.ide_ssr_nesting.specs.Kept.{ComesBefore}
use Rattle.ide_ssr_nesting.proofs.sorting.are_in_order.Given as goal

abbrev pub invariant-loop-i : goal.invariant-loop-i
invariant-loop-i l = (n : ℕ) (d : FoundMatch) → suc n < l.i → ComesBefore (trees l.workspace) (get_or l.found n d) (get_or l.found (suc n) d)
