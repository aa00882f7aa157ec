-- Which scope a node stands in: the shortest one that holds it, of several as short the last one.
use Rattle.std.specs.Prelude.{ℕ, ◌-◌, ◌==◌, ◌&&◌, nat_le, Bool, if◌then◌else◌, List, [], ◌∷◌, filter, Option, Some, None}
use Rattle.std.specs.List.{enumerate_from}
use Rattle.std.specs.Option.{option_map}
use Rattle.ssr_facts_rows.specs.declared.places.PlaceRow.{PlaceRow}
use Rattle.ssr_base_trees.specs.declared.ids.ScopeId.{ScopeId}

-- whether a scope holds a place
abbrev pub holds : PlaceRow → PlaceRow → Bool
holds scope place = (scope.tree == place.tree) && (nat_le scope.start place.start && nat_le place.end scope.end)

abbrev pub size_of : PlaceRow → ℕ
size_of scope = scope.end - scope.start

-- of a scope with its number and one behind it, if there is one, the shorter one, of two as short the one behind
abbrev pub shorter : ℕ × PlaceRow → Option (ℕ × PlaceRow) → Option (ℕ × PlaceRow)
shorter first None = Some first
shorter first (Some later) = Some (if nat_le (size_of later.1) (size_of first.1) then later else first)

abbrev pub shortest : List (ℕ × PlaceRow) → Option (ℕ × PlaceRow)
shortest [] = None
shortest (scope ∷ later) = shorter scope (shortest later)

-- scopes are numbered by their rows
abbrev pub scope_of : List PlaceRow → PlaceRow → Option ScopeId
scope_of scopes place =
    option_map (λ scope. record { 0 = scope.0 }) (shortest (filter (λ scope. holds scope.1 place) (enumerate_from 0 scopes)))
