use Rattle.std.proofs.Common.{◌≡◌, ◌++◌, map, take}
use Rattle.std.specs.Prelude.{flat_map}
use Rattle.ssr_syntax_tree.specs.Places.{nodes_of}
use Rattle.ssr_swaps.specs.Private.Marks.{node_marks, shown}
use Rattle.ssr_swaps.proofs.marks.push_tree.Given as goal

abbrev pub invariant-loop-number : goal.invariant-loop-number
invariant-loop-number l = map shown l.marks.items ≡ map shown l.initial.marks.items ++ flat_map node_marks (take l.number (nodes_of l.tree))
