use Rattle.std.proofs.Common.{◌*◌, ◌++◌, map}
use Rattle.ssr_syntax_tree.specs.Places.{node_of, size_of}
use Rattle.ide_ssr_resolved_rule.specs.Paths.{segments}
use Rattle.ide_ssr_resolving.specs.Private.Parts.{below}
use Rattle.ide_ssr_resolving.proofs.Children.{FoundSoFar, element_size}
use Rattle.ide_ssr_resolving.proofs.paths.+segments.Given as goal

abbrev pub decreases-push_segments : goal.decreases-push_segments
decreases-push_segments l = 2 * size_of (node_of l.tree.now l.path.0)

abbrev pub decreases-push_segments_at : goal.decreases-push_segments_at
decreases-push_segments_at l = element_size l.tree.now l.child

abbrev pub invariant-push_segments-loop-child : goal.invariant-push_segments-loop-child
invariant-push_segments-loop-child l =
    FoundSoFar l.tree l.fn.path.0 (map (below l.tree) l.fn.found.items ++ segments (node_of l.tree l.fn.path.0).children) l.found.items l.child-iterator
