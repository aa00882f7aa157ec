use Rattle.std.proofs.Common.{drop, map}
use Rattle.ssr_base_trees.specs.Applied.{changes_of}
use Rattle.ssr_base_trees.specs.Origins.{span_of}
use Rattle.ssr_set_aside.specs.SetAside.{AreBlanked}
use Rattle.ssr_set_aside.proofs.keeping.are_blanked.Given as goal

abbrev pub invariant-loop-change : goal.invariant-loop-change
invariant-loop-change l =
    AreBlanked (drop l.change-index (changes_of l.changes)) (map span_of l.wanted) → AreBlanked (changes_of l.changes) (map span_of l.ranges)
