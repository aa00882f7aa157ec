-- Number tokens.
use Rattle.std.specs.Prelude.{ℕ, ◌-◌, ◌==◌, Bool, not, ◌&&◌, ◌||◌, [], ◌++◌, length, take, drop, if◌then◌else◌}
use Rattle.std.specs.List.{list_all}
use Rattle.ssr_syntax_lex.specs.Cursor.{Chars, passes_at, is_at, begins, run, past}
use Rattle.ssr_syntax_lex.specs.Characters.{is_digit, is_digit_or_underscore, is_exponent_mark, starts_word, continues_word}
use Rattle.ssr_syntax_kinds.specs.declared.kinds.SyntaxKind.{SyntaxKind}
use Rattle.ssr_syntax_kinds.specs.declared.kinds.SyntaxKind.TheVariants as k

-- what a token has taken so far, and what follows
abbrev pub Part : Type 0
Part = Chars × Chars

-- takes so many characters along, and the run of word characters behind them
abbrev pub with_run : ℕ → Part → Part
with_run n (text, rest) = (text ++ take n rest ++ run continues_word (drop n rest), past continues_word (drop n rest))

-- begins with `0x`, `0o` or `0b`
abbrev pub has_radix : Chars → Bool
has_radix text = begins "0x" text || begins "0o" text || begins "0b" text

abbrev pub ends_with_exponent_mark : Chars → Bool
ends_with_exponent_mark text = passes_at (length text - 1) is_exponent_mark text

-- the run is digits and `_` only, a `.` follows, and behind that neither `.`, `_` nor a character that starts identifiers
abbrev pub takes_point : Part → Bool
takes_point (text, rest) = list_all is_digit_or_underscore text && begins "." rest && not (is_at 1 "." rest) && not (passes_at 1 starts_word rest)

-- a sign and a digit come next
abbrev pub is_signed_digit : Chars → Bool
is_signed_digit cs = (begins "+" cs || begins "-" cs) && passes_at 1 is_digit cs

-- the token has no radix, ends with `e` or `E`, and a sign and a digit follow
abbrev pub takes_sign : Part → Bool
takes_sign (text, rest) = not (has_radix text) && ends_with_exponent_mark text && is_signed_digit rest

-- the token has no radix, and its first character that is no digit and no `_` is `e` or `E`
abbrev pub has_exponent : Chars → Bool
has_exponent text = not (has_radix text) && passes_at 0 is_exponent_mark (past is_digit_or_underscore text)

-- the longest run of word characters, from the front
abbrev pub whole_run : Chars → Part
whole_run cs = with_run 0 ([], cs)

-- also the point and the run behind it, where the number takes them
abbrev pub with_point : Part → Part
with_point part = if takes_point part then with_run 1 part else part

-- also a sign, its digit and the run behind these
abbrev pub with_sign : Part → Part
with_sign part = if takes_sign part then with_run 2 part else part

-- a float has a point, a sign or an exponent
abbrev pub number_kind : Part → SyntaxKind
number_kind part =
    if takes_point part || takes_sign (with_point part) || has_exponent (with_sign (with_point part)).0
    then k.FLOAT_NUMBER else k.INT_NUMBER

-- the number at the front, and what follows it; behind a single `.` it is the digits alone
unfoldable pub number : ℕ → Chars → SyntaxKind × Chars
number dots cs =
    if dots == 1 then (k.INT_NUMBER, past is_digit cs)
    else (number_kind (whole_run cs), (with_sign (with_point (whole_run cs))).1)
