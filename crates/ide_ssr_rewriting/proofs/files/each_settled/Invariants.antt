use Rattle.std.proofs.Common.{◌≡◌, map, take}
use Rattle.std.specs.List.{filter_map}
use Rattle.ssr_base_trees.specs.Applied.{changes_of}
use Rattle.ssr_standing.specs.Near.{settled, stands_by}
use Rattle.ide_ssr_rewriting.specs.Fitting.{as_told}
use Rattle.ide_ssr_rewriting.proofs.files.each_settled.Given as goal

abbrev pub invariant-loop-range : goal.invariant-loop-range
invariant-loop-range l = record {
  all : changes_of l.all.items ≡ map (as_told (settled (stands_by l.file.trees.now l.file.number))) (take l.range-index (changes_of l.range-items));
  standing : changes_of l.standing.items ≡ filter_map (settled (stands_by l.file.trees.now l.file.number)) (take l.range-index (changes_of l.range-items));
}
