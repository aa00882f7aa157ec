-- The solid tokens of a text, from the kinds of its tokens alone. A text's token is joint if the next one is
-- punctuation, and nothing else is joined, so whether it is joint needn't be asked.
use Rattle.std.specs.Prelude.{if◌then◌else◌, List, [], ◌∷◌, drop, map, Option, Some, None}
use Rattle.ssr_syntax_kinds.specs.Kinds.{is_trivia}
use Rattle.ssr_syntax_kinds.specs.declared.kinds.SyntaxKind.{SyntaxKind}
use Rattle.ssr_syntax_kinds.specs.declared.token_rows.TokenRow.{TokenRow}
use Rattle.ssr_syntax_forms.specs.declared.tokens.Token.{Token}
use Rattle.ssr_syntax_rows.specs.Solid.{joined, joined_three}

-- the kinds of the tokens of these rows
abbrev pub kinds_of : List TokenRow → List SyntaxKind
kinds_of rows = map (λ row. row.kind) rows

-- a token of the kind, joined with the first of those behind it
abbrev pub with_next : SyntaxKind → List SyntaxKind → Option SyntaxKind
with_next kind [] = None
with_next kind (next ∷ kinds) = joined next kind

abbrev pub two_of : SyntaxKind → List SyntaxKind → Option SyntaxKind → Token
two_of kind kinds None = record { kind = kind; joined = kind; size = 1 }
two_of kind kinds (Some two) = joined_three kind two (with_next two (drop 1 kinds))

-- the token in front of others
abbrev pub solid_kind : SyntaxKind → List SyntaxKind → Token
solid_kind kind kinds = two_of kind kinds (with_next kind kinds)

abbrev pub solid_kinds : List SyntaxKind → List Token
solid_kinds [] = []
solid_kinds (kind ∷ kinds) = if is_trivia kind then solid_kinds kinds else solid_kind kind kinds ∷ solid_kinds kinds
