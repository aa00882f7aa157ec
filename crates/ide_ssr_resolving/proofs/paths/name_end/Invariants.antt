use Rattle.std.proofs.Common.{◌≡◌, ◌+◌, map}
use Rattle.std.specs.Prelude.{All}
use Rattle.ssr_syntax_tree.specs.Places.{node_of, part_of, HasElement}
use Rattle.ssr_syntax_tree.specs.Syntax.{token_count}
use Rattle.ide_ssr_resolved_rule.specs.Paths.{before_arguments}
use Rattle.ide_ssr_resolving.proofs.Children.{start_among}
use Rattle.ide_ssr_resolving.proofs.paths.name_end.Given as goal

abbrev pub invariant-loop-child : goal.invariant-loop-child
invariant-loop-child l =
    let node = node_of l.tree l.fn.segment.0 in
    record {
      so_far : start_among (node.first + token_count node.children) (map (part_of l.tree) l.child-iterator)
          ≡ node.first + token_count (before_arguments node.children);
      had : All (HasElement l.tree) l.child-iterator;
    }
