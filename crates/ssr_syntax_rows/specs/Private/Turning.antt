-- Private: rows on their way to preorder: those that are unread, those that are turned, the last one of the tree first, and how
-- many were read and aren't turned yet.
use Rattle.std.specs.Prelude.{ℕ, ◌-◌, List, take, drop, reverse}
use Rattle.ssr_syntax_tree.specs.declared.rows.NodeRow.{NodeRow}

pub record TurningRows : Type 0 where
  pub unread : List NodeRow
  pub turned : List NodeRow
  pub room : ℕ

-- rows on their way whose first ones are unread and whose last ones, from a place on, are turned
abbrev pub turned_of : List NodeRow → ℕ → ℕ → TurningRows
turned_of rows unread turned = record { unread = take unread rows; turned = reverse (drop turned rows); room = turned - unread }
