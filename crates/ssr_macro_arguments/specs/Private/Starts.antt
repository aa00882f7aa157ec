-- Where tokens begin in the text that they spell.
use Rattle.std.specs.Prelude.{ℕ, List, length, map, take}
use Rattle.std.specs.List.{range_with_len}
use Rattle.ssr_syntax.specs.Expansions.{expansion_text}
use Rattle.ssr_syntax.specs.declared.expansions.ExpToken.{ExpToken}

-- where the token of a number begins
abbrev pub start_at : List ExpToken → ℕ → ℕ
start_at tokens n = length (expansion_text (take n tokens))

abbrev pub starts_of : List ExpToken → List ℕ
starts_of tokens = map (start_at tokens) (range_with_len 0 (length tokens))
