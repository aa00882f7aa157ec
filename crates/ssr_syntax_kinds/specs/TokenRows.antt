-- The rows of a text's tokens.
use Rattle.std.specs.Prelude.{ℕ}
use Rattle.ssr_syntax_kinds.specs.declared.kinds.SyntaxKind.{SyntaxKind}
use Rattle.ssr_syntax_kinds.specs.declared.token_rows.TokenRow.{TokenRow}

-- the row of a token of this kind, which begins there
abbrev pub row_with : SyntaxKind → ℕ → TokenRow
row_with kind start = record { kind = kind; start = start }
