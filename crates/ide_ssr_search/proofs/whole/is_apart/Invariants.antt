use Rattle.std.proofs.Common.{ℕ, ◌<◌, get_or}
use Rattle.ssr_base_trees.specs.declared.ids.FileRange.{FileRange}
use Rattle.ide_ssr_search.proofs.Apart.{Disjoint}
use Rattle.ide_ssr_search.proofs.whole.is_apart.Given as goal

abbrev pub invariant-loop-other : goal.invariant-loop-other
invariant-loop-other l = (k : ℕ) (d : FileRange) → k < l.other-index → Disjoint (get_or l.others k d) l.range
