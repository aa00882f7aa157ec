-- The reaches that a change may still touch.
use Rattle.std.specs.Prelude.{ℕ, nat_lt, Bool, false, if◌then◌else◌, List, [], ◌∷◌}
use Rattle.ssr_base_trees.specs.Origins.{Span}

-- the reaches from the first one on that ends behind a place
abbrev pub behind : ℕ → List Span → List Span
behind place [] = []
behind place (r ∷ rs) = if nat_lt place r.end then r ∷ rs else behind place rs

-- whether the first reach begins before a place
abbrev pub begins_before : ℕ → List Span → Bool
begins_before place [] = false
begins_before place (r ∷ rs) = nat_lt r.start place
