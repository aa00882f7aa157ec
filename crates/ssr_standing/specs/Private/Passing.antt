-- Private: bytes that no place touches.
use Rattle.std.specs.Prelude.{ℕ, ◌&&◌, nat_lt, Bool, true, List, slice_get}
use Rattle.std.specs.Option.{option_map_or}
use Rattle.ssr_base_trees.specs.Origins.{Span}
use Rattle.ssr_standing.specs.Around.{passed}

-- the first place that ends behind one byte begins behind another one, and ends there
abbrev pub is_clear : List Span → ℕ → ℕ → Bool
is_clear places start end =
    option_map_or (λ place. nat_lt end place.start && nat_lt end place.end) (slice_get places (passed places start)) true
