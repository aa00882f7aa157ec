-- How many rows `NodeRows` has: as many as kinds, and as many as places.
use Rattle.std.proofs.Common.{◌≡◌, List, length, vec_len}
use Rattle.ssr_syntax_kinds.proofs.Zips.{vectors_counted}
use Rattle.ssr_syntax_tree.specs.declared.rows.NodeRow.{NodeRow}
use Rattle.ssr_syntax_tree.specs.declared.node_rows.NodeRows.TheInside.{Inside}
use Rattle.ssr_syntax_tree.specs.Private.NodeRows.{row_with, rows_of, AreBeside}

pub kinds_counted : (inside : Inside) (rows : List NodeRow) → AreBeside inside → rows_of inside ≡ rows → vec_len inside.kinds ≡ length rows
kinds_counted inside rows beside seen = (vectors_counted row_with inside.kinds inside.places rows beside seen).0

pub places_counted : (inside : Inside) (rows : List NodeRow) → AreBeside inside → rows_of inside ≡ rows → vec_len inside.places ≡ length rows
places_counted inside rows beside seen = (vectors_counted row_with inside.kinds inside.places rows beside seen).1
