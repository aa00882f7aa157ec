use Rattle.std.proofs.Common.{◌≡◌, ◌+◌, ◌-◌, ◌≤◌, All}
use Rattle.ssr_syntax_tree.specs.Syntax.{token_count}
use Rattle.ssr_syntax_tree.specs.Places.{HasToken, node_of}
use Rattle.ide_ssr_rewriting.specs.Comments.{is_kept_comment}
use Rattle.ide_ssr_rewriting.proofs.Passed.{passed}
use Rattle.ide_ssr_rewriting.proofs.comments.kept_comments.Given as goal

abbrev pub invariant-loop-number : goal.invariant-loop-number
invariant-loop-number l = record {
  kept : l.comments.items ≡ passed (is_kept_comment l.tree l.bindings) (node_of l.tree l.fn.node.0).first l.number;
  has : All (λ token. HasToken l.tree token.0) l.comments.items;
  from : (node_of l.tree l.fn.node.0).first ≤ l.number;
  within : l.number ≤ (node_of l.tree l.fn.node.0).first + token_count (node_of l.tree l.fn.node.0).children;
}

abbrev pub decreases-loop-number : goal.decreases-loop-number
decreases-loop-number l = (node_of l.tree l.fn.node.0).first + token_count (node_of l.tree l.fn.node.0).children - l.number
