-- What stands in front of a text's tokens.
use Rattle.std.specs.Prelude.{ℕ, ◌-◌, ◌&&◌, ◌==◌, ◌++◌, nat_eq, Bool, not, if◌then◌else◌, List, [], ◌∷◌, codes, length, map, take, drop, slice_index}
use Rattle.std.specs.List.{starts_with, after_first}
use Rattle.std.specs.Str.{trim_start}

-- the bytes of a byte order mark
abbrev pub order_mark : List ℕ
order_mark = 239 ∷ (187 ∷ (191 ∷ []))

-- a text without a byte order mark in front
abbrev pub unmarked : List ℕ → List ℕ
unmarked text = if starts_with nat_eq text order_mark then drop 3 text else text

-- `#!`, and behind it and white space no `[`: the line is no attribute
abbrev pub names_interpreter : List ℕ → Bool
names_interpreter text = starts_with nat_eq text (codes "#!") && not (slice_index (trim_start (drop 2 text)) 0 == 91)

-- a text from its second line on
abbrev pub behind_line : List ℕ → List ℕ
behind_line text = after_first (λ b. b == 10) text

-- a text without a byte order mark and a first line that names an interpreter
unfoldable pub behind_front : List ℕ → List ℕ
behind_front text = if names_interpreter (unmarked text) then behind_line (unmarked text) else unmarked text

-- those, as they stand
unfoldable pub front : List ℕ → List ℕ
front text = take (length text - length (behind_front text)) text

-- what stands for a byte that is set aside: a blank, but for a line break, which stays
abbrev pub blank_for : ℕ → ℕ
blank_for byte = if byte == 10 then 10 else 32

unfoldable pub blanked : List ℕ → List ℕ
blanked text = map blank_for text

-- a text as it is cut into tokens: with blanks for its front
abbrev pub bare : List ℕ → List ℕ
bare text = blanked (front text) ++ behind_front text
