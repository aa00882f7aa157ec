-- Patterns of names, character by character.
use Rattle.std.specs.Prelude.{ℕ, ◌==◌, ◌&&◌, ◌||◌, Bool, false, if◌then◌else◌, List, [], ◌∷◌, length}

abbrev pub is_star : ℕ → Bool
is_star p = p == 42

-- a character of a pattern stands for one of a name: `?` for any, each other one for itself
abbrev pub stands_for : ℕ → ℕ → Bool
stands_for p c = p == 63 || p == c

-- a name begins with a character for which this one stands, and its rest passes
abbrev pub begins : ℕ → (List ℕ → Bool) → List ℕ → Bool
begins p passes [] = false
begins p passes (c ∷ name) = stands_for p c && passes name

-- some end of a name passes, be it all of it or nothing
abbrev pub some_end : (List ℕ → Bool) → List ℕ → Bool
some_end passes [] = passes []
some_end passes (c ∷ name) = passes (c ∷ name) || some_end passes name

-- whether a name fits a pattern, in which `*` stands for any text, also none, and `?` for one character
abbrev pub fits : List ℕ → List ℕ → Bool
fits [] name = length name == 0
fits (p ∷ pattern) name = if is_star p then some_end (fits pattern) name else begins p (fits pattern) name
