-- Private: rows on their way to a tree's: those that are packed, those that are unread, and how many were read and aren't
-- packed.
use Rattle.std.specs.Prelude.{ℕ, ◌-◌, List, take, drop}
use Rattle.ssr_syntax_kinds.specs.declared.token_rows.TokenRow.{TokenRow}

pub record PackingRows : Type 0 where
  pub packed : List TokenRow
  pub unread : List TokenRow
  pub room : ℕ

-- rows on their way whose first ones are packed and whose last ones, from a place on, are unread
abbrev pub packed_of : List TokenRow → ℕ → ℕ → PackingRows
packed_of rows packed unread = record { packed = take packed rows; unread = drop unread rows; room = unread - packed }
