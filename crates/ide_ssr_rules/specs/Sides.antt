-- The two sides of a rule text.
use Rattle.std.specs.Prelude.{ℕ, List, [], ◌∷◌, Option, Some, None, Result, Ok, Err, drop, codes, eqb, length, if◌then◌else◌}
use Rattle.std.specs.List.{starts_with}
use Rattle.std.specs.Option.{option_map}
use Rattle.std.specs.Str.{trim}
use Rattle.ide_ssr_refusals.specs.declared.refusals.Refusal.TheVariants as r
use Rattle.ide_ssr_refusals.specs.declared.refusals.Refusal.{Refusal}

abbrev pub delimiter : List ℕ
delimiter = codes "==>>"

-- what stands before and behind the first delimiter of a text
abbrev pub split_at_delimiter : List ℕ → Option (List ℕ × List ℕ)
split_at_delimiter [] = None
split_at_delimiter (b ∷ bs) =
    if starts_with eqb (b ∷ bs) delimiter then Some ([], drop (length delimiter) (b ∷ bs))
    else option_map (λ parts. (b ∷ parts.0, parts.1)) (split_at_delimiter bs)

-- both sides, trimmed, unless there is another split behind the first
abbrev pub only : List ℕ × List ℕ → Option (List ℕ × List ℕ) → Result (List ℕ × List ℕ) Refusal
only parts None = Ok (trim parts.0, trim parts.1)
only parts (Some more) = Err r.SecondDelimiter

abbrev pub only_split : Option (List ℕ × List ℕ) → Result (List ℕ × List ℕ) Refusal
only_split None = Err r.NoDelimiter
only_split (Some parts) = only parts (split_at_delimiter parts.1)

-- the pattern and the template of a rule text, which has exactly one delimiter
unfoldable pub sides : List ℕ → Result (List ℕ × List ℕ) Refusal
sides text = only_split (split_at_delimiter text)
