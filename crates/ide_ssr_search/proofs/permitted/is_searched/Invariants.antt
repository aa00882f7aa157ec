use Rattle.std.proofs.Common.{ℕ, ◌<◌, get_or}
use Rattle.ssr_base_trees.specs.declared.ids.FileRange.{FileRange}
use Rattle.ssr_base_trees.specs.Workspace.{file_span_of}
use Rattle.ssr_base_trees.specs.Laws.{LiesIn}
use Rattle.ide_ssr_search.proofs.permitted.is_searched.Given as goal

abbrev pub invariant-loop-restriction : goal.invariant-loop-restriction
invariant-loop-restriction l =
    (k : ℕ) (d : FileRange) → k < l.restriction-index → ¬ LiesIn (file_span_of l.range) (file_span_of (get_or l.restrictions k d))
