use Rattle.std.proofs.Common.{◌+◌}
use Rattle.std.specs.Option.{option_map_or}
use Rattle.ssr_base_trees.specs.Workspace.{trees}
use Rattle.ide_ssr_nesting.proofs.Nearest.{IsPast}
use Rattle.ide_ssr_nesting.proofs.kept.Nest.nearest.Given as goal

abbrev pub invariant-loop-candidate : goal.invariant-loop-candidate
invariant-loop-candidate l = IsPast (trees l.workspace) l.self.matches.items l.m l.candidate

abbrev pub decreases-loop-candidate : goal.decreases-loop-candidate
decreases-loop-candidate l = option_map_or (λ p. 1 + p) l.candidate 0
