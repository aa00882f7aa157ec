use Rattle.std.proofs.Common.{ℕ, ◌<◌}
use Rattle.ssr_base_trees.specs.Workspace.{trees}
use Rattle.ide_ssr_nesting.specs.Kept.{LiesUnder}
use Rattle.ide_ssr_nesting.proofs.kept.binding_over.Given as goal

abbrev pub invariant-loop-i : goal.invariant-loop-i
invariant-loop-i l = (n : ℕ) → n < l.i → LiesUnder (trees l.workspace) l.k l.m n → ⊥
