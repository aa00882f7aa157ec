-- Private: where matches in a tree have to lie.
use Rattle.std.specs.Prelude.{ℕ, ◌≡◌, ⊤, List, Option, Some, None, MatchOption}
use Rattle.std.specs.Option.{IsSomeAnd}
use Rattle.ssr_base_trees.specs.Workspace.{PlacedTree, FileSpan, with_number, file_span_of}
use Rattle.ssr_base_trees.specs.Laws.{LiesIn}
use Rattle.ide_ssr_search.specs.declared.bounds.Bounds.{Bounds}
use Rattle.ide_ssr_search.specs.declared.bounds.Bounds.TheVariants as limits
use Rattle.ide_ssr_search.specs.Permitted.{arguments_range}

-- these are the bounds of what a call stands for, where its arguments come from this range
abbrev pub AreBoundsOf : Option FileSpan → Bounds → Type 0
AreBoundsOf arguments limits.Everywhere = ⊥
AreBoundsOf arguments (limits.Within range) = arguments ≡ Some (file_span_of range)
AreBoundsOf arguments limits.Nowhere = arguments ≡ None

-- these are the bounds of a tree
abbrev pub AreBounds : List PlacedTree → ℕ → Bounds → Type 0
AreBounds trees t bounds =
    IsSomeAnd (with_number trees t) (λ p. MatchOption p.call (bounds ≡ limits.Everywhere) (λ call. AreBoundsOf (arguments_range trees call) bounds))

-- a range lies in the bounds
abbrev pub LiesInBounds : Bounds → FileSpan → Type 0
LiesInBounds limits.Everywhere range = ⊤
LiesInBounds (limits.Within within) range = LiesIn range (file_span_of within)
LiesInBounds limits.Nowhere range = ⊥
