-- Private: which ends of a pattern a name fits.
use Rattle.std.specs.Prelude.{ℕ, ◌≡◌, ◌+◌, ◌-◌, ◌<◌, Bool, false, List, drop, length, slice_index_or}
use Rattle.ssr_package.specs.Globs.{fits}

-- whether a name fits the last characters of a pattern, of which there are so many
abbrev pub fits_last : ℕ → List ℕ → List ℕ → Bool
fits_last n pattern name = fits (drop (length pattern - n) pattern) name

-- whether a name fits so many ends of a pattern, from nothing on
pub record AreFits (count : ℕ) (pattern name : List ℕ) (row : List Bool) : Type 0 where
  pub long : length row ≡ count
  pub each : (n : ℕ) → n < count → slice_index_or row n false ≡ fits_last n pattern name

-- whether it fits each end of it
abbrev pub IsRow : List ℕ → List ℕ → List Bool → Type 0
IsRow pattern name row = AreFits (length pattern + 1) pattern name row
