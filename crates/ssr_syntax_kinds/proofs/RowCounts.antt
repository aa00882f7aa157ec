-- How many rows `TokenRows` has: as many as kinds, and as many as starts.
use Rattle.std.proofs.Common.{◌≡◌, List, length, vec_len}
use Rattle.ssr_syntax_kinds.specs.declared.token_rows.TokenRow.{TokenRow}
use Rattle.ssr_syntax_kinds.specs.declared.token_rows.TokenRows.TheInside.{Inside}
use Rattle.ssr_syntax_kinds.specs.TokenRows.{row_with}
use Rattle.ssr_syntax_kinds.specs.Private.TokenRows.{rows_of, AreBeside}
use Rattle.ssr_syntax_kinds.proofs.Zips.{vectors_counted}

pub kinds_counted : (inside : Inside) (rows : List TokenRow) → AreBeside inside → rows_of inside ≡ rows → vec_len inside.kinds ≡ length rows
kinds_counted inside rows beside seen = (vectors_counted row_with inside.kinds inside.starts rows beside seen).0

pub starts_counted : (inside : Inside) (rows : List TokenRow) → AreBeside inside → rows_of inside ≡ rows → vec_len inside.starts ≡ length rows
starts_counted inside rows beside seen = (vectors_counted row_with inside.kinds inside.starts rows beside seen).1
