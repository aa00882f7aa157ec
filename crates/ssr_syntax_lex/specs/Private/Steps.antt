-- Private: what the steps of cutting a token answer.
use Rattle.std.specs.Prelude.{ℕ, Bool, false, not, ◌&&◌, nat_le, List, [], ◌∷◌, Option, Some, None, Result, Ok, Err, ◌≡◌, ◌≢◌, if◌then◌else◌, codes, max}
use Rattle.std.proofs.Math.Nat.{le-max_left}
use Prim.Native.String.{String}
use Rattle.ssr_syntax_lex.specs.Characters.{the_char, starts_word}
use Rattle.ssr_syntax_lex.specs.Cursor.{Chars, begins, is_at, passes_at}
use Rattle.ssr_syntax_lex.specs.Raw.{Taken}
use Rattle.ssr_syntax_lex.specs.Words.{is_punctuation}
use Rattle.ssr_syntax_lex.specs.declared.fault.FaultKind.{FaultKind}
use Rattle.ssr_syntax_kinds.specs.declared.kinds.SyntaxKind.{SyntaxKind}
use Rattle.ssr_syntax_kinds.specs.declared.range.TextRange.{TextRange}
use Rattle.ssr_syntax_kinds.specs.declared.token_rows.TokenRow.{TokenRow}
use Rattle.ssr_syntax_lex.specs.declared.tokens.RawToken.{RawToken}

-- what is left is what follows; where nothing does, this fault was told
abbrev pub PassesOver : FaultKind → Result Unit FaultKind → Option Chars → Chars → Type 0
PassesOver fault (Ok done) follows rest = follows ≡ Some rest
PassesOver fault (Err told) follows rest = (follows ≡ None) × (told ≡ fault)

-- the kind that was given and what is left are the token at the front; where there is none, this fault was told
abbrev pub Takes : FaultKind → Result SyntaxKind FaultKind → Option Taken → Chars → Type 0
Takes fault (Ok kind) taken rest = taken ≡ Some (kind, rest)
Takes fault (Err told) taken rest = (taken ≡ None) × (told ≡ fault)

-- a character behind which no second one has to be looked at
abbrev pub IsPlain : ℕ → Type 0
IsPlain c =
    (c ≢ the_char "/") × (c ≢ the_char "\"") × (c ≢ the_char "r") × (c ≢ the_char "b") × (c ≢ the_char "c") × (c ≢ the_char "'")

-- a `.` comes, and behind it neither `.`, `_` nor a character that starts identifiers
abbrev pub comes_point : Chars → Bool
comes_point cs = begins "." cs && not (is_at 1 "." cs) && not (passes_at 1 starts_word cs)

-- the bytes from a place up to another, if that isn't before it
abbrev pub reaching : ℕ → ℕ → TextRange
reaching start end = record { start = start; end = max start end; ordered = le-max_left start end }

-- the token of a row in front of others, of which the last one ends at the byte `total`
abbrev pub token_before : ℕ → TokenRow → List TokenRow → RawToken
token_before total row [] = record { kind = row.kind; range = reaching row.start total; joint = false }
token_before total row (next ∷ rows) =
    record {
      kind = row.kind;
      range = reaching row.start next.start;
      joint = is_punctuation next.kind;
    }

-- the tokens of rows
abbrev pub tokens_of : ℕ → List TokenRow → List RawToken
tokens_of total [] = []
tokens_of total (row ∷ rows) = token_before total row rows ∷ tokens_of total rows

abbrev pub begins_between : ℕ → ℕ → List ℕ → Bool
begins_between low high [] = false
begins_between low high (c ∷ cs) = nat_le low c && nat_le c high

-- the rows whose word begins with a byte from `low` to `high`
abbrev pub beginning : ℕ → ℕ → List (String × SyntaxKind) → List (String × SyntaxKind)
beginning low high [] = []
beginning low high (row ∷ rows) = if begins_between low high (codes row.0) then row ∷ beginning low high rows else beginning low high rows
