use Rattle.ssr_syntax_tree.specs.Places.{node_of, parts_of}
use Rattle.ide_ssr_token_trees.specs.Elements.{last_comma}
use Rattle.ide_ssr_token_trees.specs.Private.Siblings.{number_of}
use Rattle.ide_ssr_token_trees.proofs.Commas.{CommaSoFar}
use Rattle.ide_ssr_token_trees.proofs.siblings.last_comma.Given as goal

abbrev pub invariant-loop-element : goal.invariant-loop-element
invariant-loop-element l = CommaSoFar l.tree (last_comma (parts_of (node_of l.tree l.fn.node.0))) (number_of l.comma) l.element-iterator
