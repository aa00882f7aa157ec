-- Places between the characters of a text, and the bytes between two of them.
use Rattle.std.specs.Prelude.{ℕ, ◌&&◌, ◌||◌, nat_lt, nat_le, Bool, if◌then◌else◌, List, length, slice_index, slice_range, Option, Some, None}

-- whether a character begins at a byte, or the text ends there
abbrev pub is_boundary : List ℕ → ℕ → Bool
is_boundary text i = nat_le i (length text) && (nat_lt (slice_index text i) 128 || nat_le 192 (slice_index text i))

-- the bytes from `start` up to before `end`, if both stand between characters of the text
abbrev pub text_between : ℕ → ℕ → List ℕ → Option (List ℕ)
text_between start end text =
    if is_boundary text start && is_boundary text end then Some (slice_range text start end) else None
