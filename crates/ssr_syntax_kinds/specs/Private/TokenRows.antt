-- Private: how the two vectors of `TokenRows` are seen as one list of rows.
use Rattle.std.specs.Prelude.{◌≡◌, List, length}
use Rattle.std.specs.Simd.Lanes.{zip2}
use Rattle.ssr_syntax_kinds.specs.TokenRows.{row_with}
use Rattle.ssr_syntax_kinds.specs.declared.token_rows.TokenRow.{TokenRow}
use Rattle.ssr_syntax_kinds.specs.declared.token_rows.TokenRows.TheInside.{Inside}

abbrev pub rows_of : Inside → List TokenRow
rows_of rows = zip2 row_with rows.kinds.items rows.starts.items

-- each row has its kind and its start
abbrev pub AreBeside : Inside → Type 0
AreBeside rows = length rows.kinds.items ≡ length rows.starts.items
