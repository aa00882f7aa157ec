use Rattle.std.proofs.Common.{◌≡◌, ◌++◌, ◌+◌, ◌≤◌, vec_len, vec_capacity, length}
use Rattle.std.specs.Prelude.{reverse}
use Rattle.ssr_syntax_rows.specs.Private.OpenNodes.{still_open, closed}
use Rattle.ssr_syntax_rows.proofs.preorder.close_open.Given as goal

abbrev pub invariant-loop-inner : goal.invariant-loop-inner
invariant-loop-inner l =
    (still_open l.place (reverse l.above.items) ≡ still_open l.place (reverse l.fn.above.items))
    × (l.rows.turned ++ closed l.place (reverse l.above.items) ≡ l.fn.rows.turned ++ closed l.place (reverse l.fn.above.items))
    × (l.rows.unread ≡ l.fn.rows.unread)
    × (l.rows.room + length l.fn.above.items ≡ l.fn.rows.room + length l.above.items)
    × (length l.above.items ≤ l.rows.room)
    × (length l.above.items ≤ length l.fn.above.items)
    × (vec_capacity l.above ≡ vec_capacity l.fn.above)

abbrev pub decreases-loop-inner : goal.decreases-loop-inner
decreases-loop-inner l = vec_len l.above
