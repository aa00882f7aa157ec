use Rattle.std.proofs.Common.{◌≡◌, ◌++◌, map}
use Rattle.std.specs.Prelude.{All, flat_map}
use Rattle.ssr_syntax_tree.specs.Places.{HasElement, node_of, part_of, parts_of}
use Rattle.ssr_swaps.specs.Private.Marks.{part_marks, shown}
use Rattle.ssr_swaps.proofs.marks.push_node.Given as goal

abbrev pub invariant-loop-child : goal.invariant-loop-child
invariant-loop-child l = record {
  so_far : map shown l.marks.items ++ flat_map part_marks (map (part_of l.tree) l.child-iterator)
      ≡ map shown l.initial.marks.items ++ flat_map part_marks (parts_of (node_of l.tree l.fn.node.0));
  left : All (HasElement l.tree) l.child-iterator;
}
