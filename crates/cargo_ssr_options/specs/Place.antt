-- Places of a file as they are written.
use Rattle.std.specs.Prelude.{ℕ, ◌≡◌, ◌⊎◌, List, ◌∷◌, ◌++◌, string_bytes}
use Rattle.std.specs.Str.Parse.{IsNumeral, digits_value, without_leading_plus}
use Rattle.cargo_ssr_options.specs.declared.place.Place.{Place}

-- a text is a number in decimal digits
abbrev pub IsNumber : List ℕ → ℕ → Type 0
IsNumber text n = IsNumeral 10 (without_leading_plus text) × (digits_value 10 (without_leading_plus text) ≡ n)

-- a text, a colon and a number
abbrev pub EndsInNumber : List ℕ → List ℕ → ℕ → Type 0
EndsInNumber text front n = (number : List ℕ) × (text ≡ front ++ (58 ∷ number)) × IsNumber number n

-- FILE:LINE:COLUMN
abbrev pub SpellsAll : List ℕ → Place → Type 0
SpellsAll text place = (front : List ℕ) × EndsInNumber text front place.column × EndsInNumber front (string_bytes place.file) place.line

-- FILE:LINE, which is its first column
abbrev pub SpellsLine : List ℕ → Place → Type 0
SpellsLine text place = EndsInNumber text (string_bytes place.file) place.line × (place.column ≡ 1)

abbrev pub Spells : List ℕ → Place → Type 0
Spells text place = SpellsAll text place ⊎ SpellsLine text place
