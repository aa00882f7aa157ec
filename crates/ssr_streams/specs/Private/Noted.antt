-- Private: what a log of bytes noted.
use Rattle.std.specs.Prelude.{ℕ, List, map}

abbrev pub bytes_of : {A : Type 0} → List (ℕ × A) → List ℕ
bytes_of entries = map (λ entry. entry.0) entries
