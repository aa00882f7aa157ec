-- The raw tokens of a text.
use Rattle.std.specs.Prelude.{ℕ, zero, suc, ◌≡◌, ◌+◌, ◌-◌, ◌^◌, ◌<◌, ◌≤◌, Bool, false, if◌then◌else◌, List, [], ◌∷◌, Option, Some, None, Result, Ok, Err, Vec, length, map, slice_range, flat_map, IsCharBoundary}
use Rattle.std.specs.Option.{option_map, option_map_or, option_and_then}
use Rattle.std.specs.Str.{chars, encode_utf8_all}
use Rattle.std.specs.declared.alloc.Global.{Global}
use Rattle.std.proofs.Math.Nat.{le-add_right}
use Rattle.ssr_syntax_lex.specs.Cursor.{Chars}
use Rattle.ssr_syntax_lex.specs.Fault.{words_at, fault_words}
use Rattle.ssr_syntax_kinds.specs.Kinds.{same_kind}
use Rattle.ssr_syntax_lex.specs.Words.{is_punctuation}
use Rattle.ssr_syntax_lex.specs.Raw.{token, fault_of}
use Rattle.ssr_syntax_kinds.specs.declared.kinds.SyntaxKind.{SyntaxKind}
use Rattle.ssr_syntax_kinds.specs.declared.kinds.SyntaxKind.TheVariants as k
use Rattle.ssr_syntax_kinds.specs.declared.range.TextRange.{TextRange}
use Rattle.ssr_syntax_lex.specs.declared.tokens.RawToken.{RawToken}
use Rattle.ssr_syntax_kinds.specs.declared.token_rows.TokenRow.{TokenRow}
use Rattle.ssr_syntax_lex.specs.declared.tokens.LexError.{LexError}
use Rattle.ssr_syntax_lex.specs.declared.tokens.LexError.TheVariants.{TooLong, Fault, Memory}

-- how many bytes characters take
abbrev pub size : Chars → ℕ
size cs = length (encode_utf8_all cs)

-- the range of so many bytes from a place on
abbrev pub range_of : ℕ → ℕ → TextRange
range_of start count = record { start = start; end = start + count; ordered = le-add_right start count }

abbrev pub begins_with_punctuation : List RawToken → Bool
begins_with_punctuation [] = false
begins_with_punctuation (t ∷ ts) = is_punctuation t.kind

-- a token in front of others: it is joint if the first of these is punctuation
abbrev pub in_front : SyntaxKind → TextRange → List RawToken → List RawToken
in_front kind range ts = record { kind = kind; range = range; joint = begins_with_punctuation ts } ∷ ts

-- how many `.` stand directly before what follows a token of this kind
abbrev pub dots_behind : ℕ → SyntaxKind → ℕ
dots_behind dots kind = if same_kind kind k.DOT then dots + 1 else 0

-- the tokens of the characters that are left from the byte `start` on, with `dots` points directly in front;
-- there are at most `fuel` of them
abbrev pub tokens_from : ℕ → ℕ → ℕ → Chars → Option (List RawToken)
tokens_from fuel start dots [] = Some []
tokens_from zero start dots (c ∷ cs) = None
tokens_from (suc fuel) start dots (c ∷ cs) =
    option_and_then
    (λ (kind, rest). let count : ℕ = size (c ∷ cs) - size rest in
    option_map (in_front kind (range_of start count)) (tokens_from fuel (start + count) (dots_behind dots kind) rest))
    (token dots (c ∷ cs))

-- the tokens of a text, or None where there is a fault
unfoldable pub tokens : List ℕ → Option (List RawToken)
tokens text = tokens_from (length (chars text)) 0 0 (chars text)

-- why a text has no tokens; a text that is too long is told as such, also where there is no memory
abbrev pub HasNoTokens : LexError → List ℕ → Type 0
HasNoTokens (Fault fault) text = (length text < 2 ^ 32) × (tokens text ≡ None)
HasNoTokens TooLong text = 2 ^ 32 ≤ length text
HasNoTokens Memory text = length text < 2 ^ 32

-- what `lex` gives
abbrev pub Lexes : Result (Vec RawToken Global) LexError → List ℕ → Type 0
Lexes (Ok v) text = (length text < 2 ^ 32) × (tokens text ≡ Some v.items)
Lexes (Err e) text = HasNoTokens e text

-- the row of a token
abbrev pub row_of : RawToken → TokenRow
row_of t = record { kind = t.kind; start = t.range.start }

-- the rows of a text's tokens, or None where there is a fault
abbrev pub rows_in : List ℕ → Option (List TokenRow)
rows_in text = option_map (map row_of) (tokens text)

-- what `lex_rows` gives
abbrev pub LexesRows : Result (List TokenRow) LexError → List ℕ → Type 0
LexesRows (Ok rows) text = (length text < 2 ^ 32) × (rows_in text ≡ Some rows)
LexesRows (Err e) text = HasNoTokens e text

-- the words of the fault of the characters that are left from the byte `start` on, if there is one
abbrev pub fault_from : ℕ → ℕ → ℕ → Chars → Option (List ℕ)
fault_from fuel start dots [] = None
fault_from zero start dots (c ∷ cs) = None
fault_from (suc fuel) start dots (c ∷ cs) =
    option_map_or
    (λ (kind, rest). let count : ℕ = size (c ∷ cs) - size rest in fault_from fuel (start + count) (dots_behind dots kind) rest)
    (token dots (c ∷ cs))
    (Some (words_at (fault_of (c ∷ cs)) start))

-- the words of a text's fault: what begins at the first place where there is no token, and at which byte that is
unfoldable pub fault : List ℕ → Option (List ℕ)
fault text = fault_from (length (chars text)) 0 0 (chars text)

-- a fault that is told is shown in the words of the text's
abbrev pub TellsFault : {R : Type 0} → Result R LexError → List ℕ → Type 0
TellsFault (Ok v) text = Unit {0}
TellsFault (Err (Fault told)) text = fault text ≡ Some (fault_words told)
TellsFault (Err TooLong) text = Unit {0}
TellsFault (Err Memory) text = Unit {0}

-- the bytes of the text at a token's range
abbrev pub token_text : List ℕ → RawToken → List ℕ
token_text text t = slice_range text t.range.start t.range.end

-- the texts of tokens, one after the other
abbrev pub spell : List ℕ → List RawToken → List ℕ
spell text ts = flat_map (token_text text) ts

-- the ranges follow one another from a byte to another, none is empty, and each begins at a character
abbrev pub TilesFrom : List ℕ → ℕ → List RawToken → Type 0
TilesFrom text start [] = start ≡ length text
TilesFrom text start (t ∷ ts) =
    (t.range.start ≡ start) × (start < t.range.end) × IsCharBoundary text start × TilesFrom text t.range.end ts

-- the ranges are the whole text in order
abbrev pub Tiles : List ℕ → List RawToken → Type 0
Tiles text ts = TilesFrom text 0 ts
