use Rattle.std.proofs.Common.{◌≡◌, ◌≤◌, ◌++◌, length, ◌+◌}
use Rattle.ssr_syntax_rows.specs.TreeTokens.{joined_rows}
use Rattle.ssr_syntax_rows.proofs.tree_tokens.tree_tokens.Given as goal

abbrev pub invariant-loop-token : goal.invariant-loop-token
invariant-loop-token l = record {
  rows : l.packing.packed ++ joined_rows l.left (length l.packing.packed) l.next l.packing.unread ≡ joined_rows 0 0 l.joined l.fn.rows;
  count : length l.packing.packed + length l.packing.unread ≤ length l.fn.rows;
}

abbrev pub decreases-loop-token : goal.decreases-loop-token
decreases-loop-token l = length l.packing.unread
