use Rattle.std.proofs.Common.{◌≡◌, map}
use Rattle.std.specs.Prelude.{All}
use Rattle.ssr_syntax_tree.specs.Places.{node_of, part_of, parts_of, HasElement}
use Rattle.ide_ssr_search.specs.Private.Words.{first_text}
use Rattle.ide_ssr_search.proofs.words.first_text.Given as goal

abbrev pub invariant-loop-child : goal.invariant-loop-child
invariant-loop-child l = record {
  so_far : first_text (map (part_of l.tree) l.child-iterator) ≡ first_text (parts_of (node_of l.tree l.fn.node.0));
  had : All (HasElement l.tree) l.child-iterator;
}
