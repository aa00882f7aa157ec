-- The rules of a text: its paragraphs.
use Rattle.std.specs.Prelude.{ℕ, ◌==◌, ◌||◌, Bool, not, nat_lt, nat_eq, List, length, map, filter, codes}
use Rattle.std.specs.List.{join_with_byte, list_all, slice_split, starts_with}
use Rattle.std.specs.Str.Lines.{lines}

-- a line that begins with #
abbrev pub is_comment : List ℕ → Bool
is_comment line = starts_with nat_eq line (codes "#")

-- a line of blanks and tabs alone, or without any byte
abbrev pub is_blank : List ℕ → Bool
is_blank line = list_all (λ byte. (byte == 32) || (byte == 9)) line

abbrev pub is_filled : List ℕ → Bool
is_filled text = nat_lt 0 (length text)

-- what stands between blank lines, without the comments: the lines of each part joined by line breaks, of those that have any
abbrev pub rules_of_lines : List (List ℕ) → List (List ℕ)
rules_of_lines ls = filter is_filled (map (join_with_byte 10) (slice_split is_blank (filter (λ line. not (is_comment line)) ls)))

abbrev pub rules_in : List ℕ → List (List ℕ)
rules_in text = rules_of_lines (lines text)
