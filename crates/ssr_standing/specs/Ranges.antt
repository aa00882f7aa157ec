-- Where the texts of changes stand in the text with the changes made.
use Rattle.std.specs.Prelude.{ℕ, ◌≡◌, ◌+◌, ◌-◌, ◌<◌, ◌^◌, List, [], ◌∷◌, length, map, slice_range}
use Rattle.ssr_base_trees.specs.Changes.{Change}
use Rattle.ssr_base_trees.specs.Origins.{Span}

-- the bytes that a change replaces
abbrev pub old_place : Change → Span
old_place c = record { start = c.start; end = c.end }

-- the bytes that changes replace, where what stands at the byte `from` of a text is taken to stand at `at`
abbrev pub place_from : ℕ → ℕ → Change → Span
place_from at from c = record { start = at + (c.start - from); end = at + (c.end - from) }

abbrev pub old_places : ℕ → ℕ → List Change → List Span
old_places at from cs = map (place_from at from) cs

-- the bytes of the changes' texts, where what stands at the byte `from` of the old text stands at `at` in the new one
abbrev pub new_places : ℕ → ℕ → List Change → List Span
new_places at from [] = []
new_places at from (c ∷ cs) =
    let start = at + (c.start - from) in
    record { start = start; end = start + length c.text } ∷ new_places (start + length c.text) c.end cs

-- 32 bits count the bytes up to the end
abbrev pub IsShort : Span → Type 0
IsShort place = place.end < 2 ^ 32

-- in a text the changes' texts stand at these places
abbrev pub AreWritten : List ℕ → List Span → List Change → Type 0
AreWritten text [] [] = Unit {0}
AreWritten text [] (c ∷ cs) = ⊥
AreWritten text (place ∷ places) [] = ⊥
AreWritten text (place ∷ places) (c ∷ cs) = (slice_range text place.start place.end ≡ c.text) × AreWritten text places cs
