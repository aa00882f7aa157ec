-- Names of files, as git writes them.
use Rattle.std.specs.Prelude.{ℕ, ◌+◌, ◌/◌, ◌%◌, ◌==◌, ◌||◌, Bool, if◌then◌else◌, List, [], ◌∷◌, ◌++◌, flat_map, codes, encode_utf8}
use Rattle.std.specs.List.{list_any}
use Rattle.std.specs.Str.{chars}
use Rattle.std.specs.Char.{is_ascii_control}

-- whether a character can't stand for itself between quotation marks: `"`, `\` and the control characters
abbrev pub is_escaped : ℕ → Bool
is_escaped c = (c == 34 || c == 92) || is_ascii_control c

-- a character's number, as three octal digits behind a backslash
abbrev pub octal : ℕ → List ℕ
octal c = codes "\\" ++ (48 + c / 64) ∷ (48 + c / 8 % 8) ∷ (48 + c % 8) ∷ []

-- what stands for a character between quotation marks
abbrev pub escape : ℕ → List ℕ
escape c =
    if c == 34 then codes "\\\""
    else if c == 92 then codes "\\\\"
    else if c == 7 then codes "\\a"
    else if c == 8 then codes "\\b"
    else if c == 9 then codes "\\t"
    else if c == 10 then codes "\\n"
    else if c == 11 then codes "\\v"
    else if c == 12 then codes "\\f"
    else if c == 13 then codes "\\r"
    else if is_ascii_control c then octal c
    else encode_utf8 c

-- a name, between quotation marks where it has a character that can't stand for itself there
abbrev pub quoted : List ℕ → List ℕ
quoted name = if list_any is_escaped (chars name) then codes "\"" ++ (flat_map escape (chars name) ++ codes "\"") else name
