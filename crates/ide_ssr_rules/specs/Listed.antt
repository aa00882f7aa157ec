-- Names as a user writes them: `$a, $b`.
use Rattle.std.specs.Prelude.{ℕ, ◌+◌, ◌==◌, if◌then◌else◌, List, [], ◌∷◌, ◌++◌, codes}

abbrev pub mark : ℕ → List ℕ
mark place = if place == 0 then codes "$" else codes ", $"

abbrev pub listed_from : ℕ → List (List ℕ) → List ℕ
listed_from place [] = []
listed_from place (name ∷ names) = mark place ++ (name ++ listed_from (place + 1) names)

abbrev pub listed : List (List ℕ) → List ℕ
listed names = listed_from 0 names
