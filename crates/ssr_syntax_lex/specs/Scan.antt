-- What follows a comment, a string or a character; None where it isn't closed.
use Rattle.std.specs.Prelude.{ℕ, zero, suc, Bool, false, ◌&&◌, nat_le, [], ◌∷◌, Option, Some, None, length, drop, if◌then◌else◌}
use Rattle.ssr_syntax_lex.specs.Cursor.{Chars, passes_at, begins, run, past}
use Rattle.ssr_syntax_lex.specs.Characters.{◌∈◌, is_hash, is_in_char}

-- what follows the `*/` of the outermost of so many block comments that are open
abbrev pub past_comments : ℕ → Chars → Option Chars
past_comments zero cs = Some cs
past_comments (suc depth) [] = None
past_comments (suc depth) (c ∷ []) = None
past_comments (suc depth) (c ∷ d ∷ cs) =
    if begins "/*" (c ∷ d ∷ cs) then past_comments (suc (suc depth)) cs
    else if begins "*/" (c ∷ d ∷ cs) then past_comments depth cs
    else past_comments (suc depth) (d ∷ cs)

-- what follows the `"` that closes a string; `\` takes the character after it along, the flag says that one stands directly before
abbrev pub past_quoted : Bool → Chars → Option Chars
past_quoted escaped [] = None
past_quoted escaped (c ∷ cs) =
    if escaped then past_quoted false cs
    else if c ∈ "\"" then Some cs
    else past_quoted (c ∈ "\\") cs

-- so many `#` come next
abbrev pub begins_with_hashes : ℕ → Chars → Bool
begins_with_hashes hashes cs = nat_le hashes (length (run is_hash cs))

-- what follows the `"` and so many `#` that close a raw string
abbrev pub past_raw : ℕ → Chars → Option Chars
past_raw hashes [] = None
past_raw hashes (c ∷ cs) = if c ∈ "\"" && begins_with_hashes hashes cs then Some (drop hashes cs) else past_raw hashes cs

-- what follows a raw string, from behind its `r`
abbrev pub past_raw_string : Chars → Option Chars
past_raw_string cs = past_raw (length (run is_hash cs)) (drop 1 (past is_hash cs))

-- what follows a `'`, if that comes next
abbrev pub past_apostrophe : Chars → Option Chars
past_apostrophe cs = if begins "'" cs then Some (drop 1 cs) else None

-- what follows a character, from behind its first `'`: `\`, any character, any characters other than `'` and U+000A, and `'`;
-- or one character other than `'`, `\` and U+000A, and `'`
abbrev pub past_char : Chars → Option Chars
past_char cs =
    if begins "\\" cs then past_apostrophe (past is_in_char (drop 2 cs))
    else if passes_at 0 is_in_char cs then past_apostrophe (drop 1 cs)
    else None
