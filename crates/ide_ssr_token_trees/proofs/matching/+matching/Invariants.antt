use Rattle.std.proofs.Common.{◌*◌, length}
use Rattle.ssr_syntax_tree.specs.Places.{node_of, size_of}
use Rattle.ide_ssr_token_trees.specs.Bindings.{placeholder_in}
use Rattle.ide_ssr_token_trees.specs.Private.Siblings.{siblings_left}
use Rattle.ide_ssr_token_trees.proofs.Matched.{MatchedSoFar, element_size}
use Rattle.ide_ssr_token_trees.proofs.matching.+matching.Given as goal

abbrev pub decreases-match_token_trees : goal.decreases-match_token_trees
decreases-match_token_trees l = 2 * size_of (node_of l.pattern.now l.p.0)

abbrev pub decreases-element_matches : goal.decreases-element_matches
decreases-element_matches l = element_size l.pattern.now.tree.now l.p

abbrev pub invariant-match_token_trees-loop-first : goal.invariant-match_token_trees-loop-first
invariant-match_token_trees-loop-first l =
    MatchedSoFar (placeholder_in l.placeholders) l.pattern l.code l.fn.p.0 l.fn.c.0 l.ps l.cs l.fn.out l.out

abbrev pub decreases-match_token_trees-loop-first : goal.decreases-match_token_trees-loop-first
decreases-match_token_trees-loop-first l = length (siblings_left l.ps)
