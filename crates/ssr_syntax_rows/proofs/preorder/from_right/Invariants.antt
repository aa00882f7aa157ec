use Rattle.std.proofs.Common.{◌≡◌, ◌++◌, ◌≤◌, length, vec_capacity}
use Rattle.std.specs.Prelude.{reverse}
use Rattle.ssr_syntax_tree.specs.Syntax.{most_deep}
use Rattle.ssr_syntax_rows.specs.Private.OpenNodes.{from_right, is_deeper, AreEnough}
use Rattle.ssr_syntax_rows.proofs.preorder.from_right.Given as goal

abbrev pub invariant-loop-row : goal.invariant-loop-row
invariant-loop-row l =
    (l.rows.turned ++ from_right (reverse l.above.items) (reverse l.rows.unread)
    ≡ l.fn.rows.turned ++ from_right (reverse l.fn.above.items) (reverse l.fn.rows.unread))
    × (is_deeper most_deep (reverse l.above.items) (reverse l.rows.unread)
    ≡ is_deeper most_deep (reverse l.fn.above.items) (reverse l.fn.rows.unread))
    × (length l.rows.unread ≤ length l.fn.rows.unread)
    × (l.rows.room ≡ length l.above.items)
    × AreEnough (vec_capacity l.above) l.rows

abbrev pub decreases-loop-row : goal.decreases-loop-row
decreases-loop-row l = length l.rows.unread
