-- The raw token at the front of a text.
use Rattle.std.specs.Prelude.{ℕ, Bool, false, not, ◌&&◌, ◌||◌, [], ◌∷◌, Option, Some, None, drop, if◌then◌else◌}
use Rattle.std.specs.Option.{option_map}
use Rattle.std.specs.Str.{encode_utf8_all}
use Rattle.ssr_syntax_lex.specs.Cursor.{Chars, passes_at, is_at, begins, run, past}
use Rattle.ssr_syntax_lex.specs.Characters.{is_whitespace, is_hash, is_digit, starts_word, continues_word, is_in_line}
use Rattle.ssr_syntax_lex.specs.Words.{word_kind, mark_kind}
use Rattle.ssr_syntax_lex.specs.Numbers.{number}
use Rattle.ssr_syntax_lex.specs.Scan.{past_comments, past_quoted, past_raw_string, past_char}
use Rattle.ssr_syntax_lex.specs.declared.fault.FaultKind.{FaultKind}
use Rattle.ssr_syntax_lex.specs.declared.fault.FaultKind.TheVariants as faults
use Rattle.ssr_syntax_kinds.specs.declared.kinds.SyntaxKind.{SyntaxKind}
use Rattle.ssr_syntax_kinds.specs.declared.kinds.SyntaxKind.TheVariants as k

-- a token's kind, and what follows the token
abbrev pub Taken : Type 0
Taken = SyntaxKind × Chars

-- the kind of the word at the front
abbrev pub kind_of_word : Chars → SyntaxKind
kind_of_word cs = word_kind (encode_utf8_all (run continues_word cs))

-- what follows that word
abbrev pub past_word : Chars → Chars
past_word cs = past continues_word cs

-- a raw string: `r`, any number of `#` and `"`
abbrev pub begins_raw_string : Chars → Bool
begins_raw_string cs = begins "r" cs && begins "\"" (past is_hash (drop 1 cs))

-- `"`, or a raw string
abbrev pub begins_string : Chars → Bool
begins_string cs = begins "\"" cs || begins_raw_string cs

-- what follows the string that begins there
abbrev pub past_string : Chars → Option Chars
past_string cs =
    if begins "\"" cs then past_quoted false (drop 1 cs)
    else past_raw_string (drop 1 cs)

-- `r#` and a word other than `_`
abbrev pub begins_raw_identifier : Chars → Bool
begins_raw_identifier cs =
    begins "r#" cs && passes_at 2 starts_word cs && not (is_at 2 "_" cs && not (passes_at 3 continues_word cs))

-- behind the next character comes a word whose first character isn't directly followed by `'`
abbrev pub begins_lifetime_behind : Chars → Bool
begins_lifetime_behind cs = passes_at 1 starts_word cs && not (is_at 2 "'" cs)

-- `'` and such a word
abbrev pub begins_lifetime : Chars → Bool
begins_lifetime cs = begins "'" cs && begins_lifetime_behind cs

-- a punctuation character
abbrev pub punctuation : Chars → Option Taken
punctuation [] = None
punctuation (c ∷ cs) = option_map (λ kind. let taken : Taken = (kind, cs) in taken) (mark_kind c)

-- a token of this kind, where it is closed
abbrev pub closed : SyntaxKind → Option Chars → Option Taken
closed kind rest = option_map (λ cs. let taken : Taken = (kind, cs) in taken) rest

-- The token at the front, or None at a fault. `dots` counts the `.` that stand directly before.
unfoldable pub token : ℕ → Chars → Option Taken
token dots cs =
    if passes_at 0 is_whitespace cs then Some (k.WHITESPACE, past is_whitespace cs)
    else if begins "//" cs then Some (k.COMMENT, past is_in_line cs)
    else if begins "/*" cs then closed k.COMMENT (past_comments 1 (drop 2 cs))
    else if begins_string cs then closed k.STRING (past_string cs)
    else if begins "b" cs && begins_string (drop 1 cs) then closed k.BYTE_STRING (past_string (drop 1 cs))
    else if begins "c" cs && begins_string (drop 1 cs) then closed k.C_STRING (past_string (drop 1 cs))
    else if begins "b'" cs then closed k.BYTE (past_char (drop 2 cs))
    else if begins_raw_identifier cs then Some (k.IDENT, past_word (drop 2 cs))
    else if passes_at 0 starts_word cs then Some (kind_of_word cs, past_word cs)
    else if begins_lifetime cs then Some (k.LIFETIME_IDENT, past_word (drop 1 cs))
    else if begins "'" cs then closed k.CHAR (past_char (drop 1 cs))
    else if passes_at 0 is_digit cs then Some (number dots cs)
    else punctuation cs

-- what the fault is, where there is no token at the front
abbrev pub fault_of : Chars → FaultKind
fault_of cs =
    if begins "/" cs then faults.UnclosedComment
    else if begins "'" cs then faults.UnclosedChar
    else if begins "b'" cs then faults.UnclosedByte
    else if begins "\"" cs || begins "r" cs || begins "b" cs || begins "c" cs then faults.UnclosedString
    else faults.NoToken
