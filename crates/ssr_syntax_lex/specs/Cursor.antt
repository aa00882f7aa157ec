-- Words on the characters that are left of a text.
use Rattle.std.specs.Prelude.{ℕ, suc, Bool, true, false, ◌==◌, ◌&&◌, List, [], ◌∷◌, slice_get, codes, if◌then◌else◌}
use Rattle.std.specs.Option.{option_map_or}
use Prim.Native.String.{String}

abbrev pub Chars : Type 0
Chars = List ℕ

-- whether there is a character at the place, and it passes
abbrev pub passes_at : ℕ → (ℕ → Bool) → Chars → Bool
passes_at i test cs = option_map_or test (slice_get cs i) false

-- whether these characters stand there from the place on
abbrev pub stand_at : ℕ → Chars → Chars → Bool
stand_at i [] cs = true
stand_at i (c ∷ []) cs = passes_at i (λ d. d == c) cs
stand_at i (c ∷ d ∷ ds) cs = passes_at i (λ e. e == c) cs && stand_at (suc i) (d ∷ ds) cs

-- the same of the characters of a text
abbrev pub is_at : ℕ → String → Chars → Bool
is_at i word cs = stand_at i (codes word) cs

-- whether these characters come first
abbrev pub begins : String → Chars → Bool
begins word cs = is_at 0 word cs

-- the longest run of characters that pass, from the front
abbrev pub run : (ℕ → Bool) → Chars → Chars
run test [] = []
run test (c ∷ cs) = if test c then c ∷ run test cs else []

-- what follows that run
abbrev pub past : (ℕ → Bool) → Chars → Chars
past test [] = []
past test (c ∷ cs) = if test c then past test cs else (c ∷ cs)
