use Rattle.std.proofs.Common.{ℕ, ◌<◌, get_or}
use Rattle.ssr_base_trees.specs.declared.ids.FileRange.{FileRange}
use Rattle.ide_ssr_search.specs.Making.{HasFile}
use Rattle.ide_ssr_search.proofs.context.are_of_files.Given as goal

abbrev pub invariant-loop-range : goal.invariant-loop-range
invariant-loop-range l = (k : ℕ) (d : FileRange) → k < l.range-index → HasFile l.workspace (get_or l.ranges k d).file_id.0
