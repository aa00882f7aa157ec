use Rattle.std.proofs.Common.{◌≡◌, map, take}
use Rattle.ssr_base_trees.specs.Applied.{changes_of}
use Rattle.ssr_standing.specs.Near.{stands_by}
use Rattle.ssr_standing.specs.declared.fitted.Judge.TheVariants as judges
use Rattle.ide_ssr_rewriting.specs.Fitting.{fitted_alone}
use Rattle.ide_ssr_rewriting.proofs.files.each_fitted.Given as goal

abbrev pub invariant-loop-range : goal.invariant-loop-range
invariant-loop-range l = changes_of l.changes.items ≡ map (fitted_alone (stands_by l.file.trees.now l.file.number judges.File)) (take l.range-index (changes_of l.range-items))
