-- Characters, as the numbers that Unicode gives them, and classes of them.
use Rattle.std.specs.Prelude.{ℕ, Bool, false, not, ◌==◌, ◌||◌, ◌&&◌, nat_le, List, [], ◌∷◌, codes, slice_index}
use Rattle.std.specs.Char.{is_ascii_digit}
use Rattle.unicode_ident.specs.Ident.{is_xid_start, is_xid_continue}
use Prim.Native.String.{String}

abbrev pub is_among : ℕ → List ℕ → Bool
is_among c [] = false
is_among c (d ∷ []) = c == d
is_among c (d ∷ e ∷ ds) = c == d || is_among c (e ∷ ds)

-- the character is one of these
infix 60 ◌∈◌
abbrev pub ◌∈◌ : ℕ → String → Bool
c ∈ text = is_among c (codes text)

-- the character of a text that has one
abbrev pub the_char : String → ℕ
the_char text = slice_index (codes text) 0

-- the white space of Rust: U+0009 to U+000D, U+0020, U+0085, U+200E, U+200F, U+2028, U+2029
abbrev pub is_whitespace : ℕ → Bool
is_whitespace c =
    (nat_le 0x9 c && nat_le c 0xd) || (c == 0x20) || (c == 0x85) || (c == 0x200e) || (c == 0x200f) || (c == 0x2028) || (c == 0x2029)

abbrev pub is_hash : ℕ → Bool
is_hash c = c ∈ "#"

-- 0 to 9
abbrev pub is_digit : ℕ → Bool
is_digit c = is_ascii_digit c

abbrev pub is_digit_or_underscore : ℕ → Bool
is_digit_or_underscore c = is_digit c || c ∈ "_"

abbrev pub is_exponent_mark : ℕ → Bool
is_exponent_mark c = c ∈ "eE"

-- a character that starts identifiers, or `_`
abbrev pub starts_word : ℕ → Bool
starts_word c = is_xid_start c || c ∈ "_"

-- a character that continues identifiers
abbrev pub continues_word : ℕ → Bool
continues_word c = is_xid_continue c

-- any but U+000A
abbrev pub is_in_line : ℕ → Bool
is_in_line c = not (c ∈ "\n")

-- neither `'` nor U+000A
abbrev pub is_in_char : ℕ → Bool
is_in_char c = not (c ∈ "'\n")
