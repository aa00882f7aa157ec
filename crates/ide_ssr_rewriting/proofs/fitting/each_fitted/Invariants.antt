use Rattle.std.proofs.Common.{◌≡◌, map, take}
use Rattle.ssr_base_trees.specs.Applied.{changes_of}
use Rattle.ide_ssr_rewriting.specs.Fitting.{fitted_alone}
use Rattle.ide_ssr_rewriting.specs.Private.Fitting.{stands_alone}
use Rattle.ide_ssr_rewriting.proofs.fitting.each_fitted.Given as goal

abbrev pub invariant-loop-range : goal.invariant-loop-range
invariant-loop-range l = changes_of l.fitted.items ≡ map (fitted_alone (stands_alone l.part)) (take l.range-index (changes_of l.changes))
