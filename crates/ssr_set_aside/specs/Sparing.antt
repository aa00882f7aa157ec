-- The changes of a searched text that are made in the file.
use Rattle.std.specs.Prelude.{ℕ, ◌&&◌, Bool, nat_lt, not, List, map, filter}
use Rattle.std.specs.List.{list_any}
use Rattle.ssr_syntax_kinds.specs.declared.range.TextRange.{TextRange}
use Rattle.ssr_base_trees.specs.Changes.{Change}
use Rattle.ssr_base_trees.specs.Origins.{Span}

-- A change touches the reach of a part set aside if they share a byte, or if it stands between two bytes of that.
abbrev pub touches : Change → Span → Bool
touches c reach = nat_lt c.start reach.end && nat_lt reach.start c.end

-- a change touches one of the reaches
abbrev pub touches_aside : List Span → Change → Bool
touches_aside reaches c = list_any (touches c) reaches

-- the changes that touch none
abbrev pub spared : List Span → List Change → List Change
spared reaches changes = filter (λ c. not (touches_aside reaches c)) changes

-- from which byte up to before which one a change goes, and a range
abbrev pub bounds_of : Change → ℕ × ℕ
bounds_of c = (c.start, c.end)

abbrev pub bounds : TextRange → ℕ × ℕ
bounds range = (range.start, range.end)

-- the bytes of the others
abbrev pub told : List Span → List Change → List (ℕ × ℕ)
told reaches changes = map bounds_of (filter (touches_aside reaches) changes)
