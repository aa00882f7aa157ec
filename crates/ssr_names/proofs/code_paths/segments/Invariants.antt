use Rattle.std.proofs.Common.{List, ◌++◌}
use Rattle.std.specs.Prelude.{reverse}
use Rattle.ssr_syntax_tree.specs.Places.{HasNode, node_of}
use Rattle.ssr_names.specs.declared.code_paths.Segment.{Segment}
use Rattle.ssr_names.specs.CodePaths.{AreSegments}
use Rattle.ssr_names.proofs.code_paths.segments.Given as goal

abbrev pub invariant-loop : goal.invariant-loop
invariant-loop l = record {
  has : HasNode l.tree l.at.0;
  so_far : (first : List Segment) → AreSegments l.names l.stranger l.tree (node_of l.tree l.at.0) first
      → AreSegments l.names l.stranger l.tree (node_of l.tree l.fn.path.0) (first ++ reverse l.found.items);
}
