-- Blanks in the place of bytes.
use Rattle.std.proofs.Common.{◌≡◌, ℕ, ◌+◌, ◌<◌, List, [], ◌∷◌, ◌++◌, length, take, get_or, refl, ◌∙◌, ap}
use Rattle.std.specs.Prelude.{map}
use Rattle.std.proofs.lemmas.List.{take_more, map-append}
use Rattle.ssr_set_aside.specs.Fronts.{blank_for, blanked}

-- no byte
pub blanked_none : blanked [] ≡ []
unfolding blanked
blanked_none = refl

-- one more
pub blanked_more : (bytes : List ℕ) (i : ℕ) → i < length bytes → blanked (take (i + 1) bytes) ≡ blanked (take i bytes) ++ blank_for (get_or bytes i 0) ∷ []
unfolding blanked
blanked_more bytes i h = ap (map blank_for) (take_more bytes i 0 h) ∙ map-append blank_for (take i bytes) (get_or bytes i 0 ∷ [])
