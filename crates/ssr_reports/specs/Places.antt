-- Lines and columns of a text.
use Rattle.std.specs.Prelude.{ℕ, ◌+◌, ◌==◌, ◌||◌, ◌≡◌, Bool, not, nat_lt, nat_le, if◌then◌else◌, List, [], ◌++◌, length, reverse, take, take_while, count_by, codes, decimal}
use Rattle.std.specs.List.{before_first, position_or_len}
use Rattle.std.specs.Str.{IsCharBoundary}
use Rattle.ssr_diff.specs.Names.{quoted}
use Rattle.ssr_reports.specs.declared.places.LinePlace.{LinePlace}

abbrev pub is_line_break : ℕ → Bool
is_line_break b = b == 10

-- whether a byte begins a character
abbrev pub begins_character : ℕ → Bool
begins_character b = nat_lt b 128 || nat_le 192 b

-- the bytes behind the last line break, from the last one on
abbrev pub last_line : List ℕ → List ℕ
last_line bytes = take_while (λ b. not (is_line_break b)) (reverse bytes)

-- one more than the line breaks before a byte
abbrev pub line_of : List ℕ → ℕ → ℕ
line_of text offset = count_by is_line_break (take offset text) + 1

-- one more than the characters between it and the last line break before it
abbrev pub column_of : List ℕ → ℕ → ℕ
column_of text offset = count_by begins_character (last_line (take offset text)) + 1

-- A byte at which a character begins, or the end of the text, stands at a place.
pub record IsAt (text : List ℕ) (place : LinePlace) (offset : ℕ) : Type 0 where
  pub between : IsCharBoundary text offset
  pub line : line_of text offset ≡ place.line
  pub column : column_of text offset ≡ place.column

-- none stands there
abbrev pub HasNone : List ℕ → LinePlace → Type 0
HasNone text place = (offset : ℕ) → IsAt text place offset → ⊥

-- a text up to its first line break
abbrev pub first_line : List ℕ → List ℕ
first_line text = before_first is_line_break text

-- a mark where more lines follow
abbrev pub mark_of : List ℕ → List ℕ
mark_of text = if position_or_len is_line_break text == length text then [] else codes " .."

-- a place of a file
abbrev pub place_words : List ℕ → LinePlace → List ℕ
place_words file place = quoted file ++ (codes ":" ++ (decimal place.line ++ (codes ":" ++ decimal place.column)))

-- what is found there
abbrev pub place_text : List ℕ → LinePlace → List ℕ → List ℕ
place_text file place found = place_words file place ++ (codes ": " ++ (first_line found ++ (mark_of found ++ codes "\n")))

-- what may match at a place, if a name stands for what is meant
abbrev pub undecided_text : List ℕ → List ℕ → List ℕ → List ℕ
undecided_text place name found = place ++ (codes ": undecided by `" ++ (name ++ (codes "`: " ++ (first_line found ++ mark_of found))))
