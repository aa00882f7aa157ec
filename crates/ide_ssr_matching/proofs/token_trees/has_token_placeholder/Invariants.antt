use Rattle.std.proofs.Common.{◌≡◌, map}
use Rattle.std.specs.Prelude.{All}
use Rattle.ssr_syntax_tree.specs.Places.{node_of, part_of, parts_of, HasElement}
use Rattle.ide_ssr_matching.specs.TokenTrees.{has_token_placeholder}
use Rattle.ide_ssr_matching.proofs.token_trees.has_token_placeholder.Given as goal

abbrev pub invariant-loop-child : goal.invariant-loop-child
invariant-loop-child l = record {
  so_far : has_token_placeholder l.rule (map (part_of l.rule.pattern) l.child-iterator)
      ≡ has_token_placeholder l.rule (parts_of (node_of l.rule.pattern l.fn.p.0));
  had : All (HasElement l.rule.pattern) l.child-iterator;
}
