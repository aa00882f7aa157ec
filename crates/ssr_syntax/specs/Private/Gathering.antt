-- Private: how tokens that are handed in are put together.
use Rattle.std.specs.Prelude.{◌≡◌, ◌≢◌, if◌then◌else◌, Bool, List, [], ◌∷◌, ◌++◌, length, map, ℕ, string_bytes, Result, Ok, Err}
use Rattle.ssr_syntax_kinds.specs.declared.kinds.SyntaxKind.{SyntaxKind}
use Rattle.ssr_syntax_kinds.specs.declared.kinds.SyntaxKind.TheVariants.{WHITESPACE}
use Rattle.ssr_syntax_lex.specs.declared.tokens.RawToken.{RawToken}
use Rattle.ssr_syntax_kinds.specs.declared.token_rows.TokenRow.{TokenRow}
use Rattle.ssr_syntax_lex.specs.Tokens.{row_of}
use Rattle.ssr_syntax.specs.declared.expansions.ExpToken.{ExpToken}
use Rattle.ssr_syntax.specs.declared.expansions.Gathered.{Gathered}
use Rattle.ssr_syntax.specs.declared.syntax_error.SyntaxError.{SyntaxError}
use Rattle.ssr_syntax.specs.declared.syntax_error.SyntaxError.TheVariants as errors
use Rattle.ssr_syntax.specs.Expansions.{expansion_text, unless_refused, lone_kind, raw_from}

-- the kind of the one token that a text is, or why it is none; want of memory says nothing
abbrev pub IsLoneKind : List ℕ → Result SyntaxKind SyntaxError → Type 0
IsLoneKind text (Ok kind) = lone_kind text ≡ Ok kind
IsLoneKind text (Err e) = e ≢ errors.Memory → lone_kind text ≡ Err e

-- kinds behind a token, with white space in front of them where it isn't joint
abbrev pub behind : Bool → List SyntaxKind → List SyntaxKind
behind joint kinds = if joint then kinds else WHITESPACE ∷ kinds

-- the kinds of tokens, with white space behind those that aren't joint
abbrev pub spaced : List RawToken → List SyntaxKind
spaced [] = []
spaced (t ∷ ts) = t.kind ∷ behind t.joint (spaced ts)

-- these are the tokens that are handed in, put together
abbrev pub IsGathered : List ExpToken → Gathered → List RawToken → Type 0
IsGathered tokens g raw =
    (raw_from 0 tokens ≡ Ok raw)
    × (string_bytes g.text ≡ expansion_text tokens)
    × (g.rows ≡ map row_of raw)
    × (g.kinds.items ≡ spaced raw)

-- the tokens are put together, or it is told why the first text that is no token is refused; want of memory says nothing
abbrev pub AreGathered : List ExpToken → Result Gathered SyntaxError → Type 0
AreGathered tokens (Ok g) = (raw : List RawToken) × IsGathered tokens g raw
AreGathered tokens (Err e) = e ≢ errors.Memory → raw_from 0 tokens ≡ Err e

-- The raw tokens are those of the front, with their texts, rows and kinds, and `rest` are the tokens that are left behind it.
pub record IsFront (tokens rest : List ExpToken) (text : List ℕ) (rows : List TokenRow) (kinds : List SyntaxKind) (raw : List RawToken) : Type 0 where
  pub texts : text ++ expansion_text rest ≡ expansion_text tokens
  pub rows_are : rows ≡ map row_of raw
  pub kinds_are : kinds ≡ spaced raw
  pub going_on : raw_from 0 tokens ≡ unless_refused (λ more. Ok (raw ++ more)) (raw_from (length text) rest)
