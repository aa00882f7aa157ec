-- Private: in which order a list stands, and how it is gone through for its first clash.
use Rattle.std.specs.Prelude.{◌≡◌, ◌<◌, ◌&&◌, Bool, true, false, if◌then◌else◌, List, [], ◌∷◌, Option, Some, None, is_some, All, AllPairs}
use Rattle.std.specs.Cmp.Lexicographic.{slice_cmp}
use Rattle.std.specs.Ordering.{is_le, nat_cmp}
use Rattle.ssr_base_trees.specs.Workspace.{FileSpan}
use Rattle.ide_ssr_rewriting.specs.Clashes.{Rewrite, Clash, clash_le, range_key, same_range, is_clash}

-- a range comes no later than another one
unfoldable pub range_le : FileSpan → FileSpan → Bool
range_le a b = is_le (slice_cmp nat_cmp (range_key a) (range_key b))

-- a list stands in the order of its ranges, each of which has a byte
pub record AreInOrder (list : List Rewrite) : Type 0 where
  pub ordered : AllPairs (λ a b. range_le a.range b.range ≡ true) list
  pub bytes : All (λ r. r.range.span.start < r.range.span.end) list

-- whether what another one clashes with, which has the same range and doesn't clash with this one, clashes with this one too
unfoldable pub stands_for : Rewrite → Rewrite → Bool
stands_for r s = same_range r.range s.range && is_some r.text

-- a list has one rewrite alone, of this range and with a text that is known
abbrev pub is_whole : FileSpan → List Rewrite → Bool
is_whole range [] = false
is_whole range (r ∷ []) = is_some r.text && same_range r.range range
is_whole range (r ∷ s ∷ rs) = false

-- the first clash of those behind one, which stands for those of its range before them
abbrev pub first_behind : Rewrite → List Rewrite → Option Clash
first_behind r [] = None
first_behind r (s ∷ rs) =
    if is_clash r s then Some (record { earlier = r.range; later = s.range }) else first_behind (if stands_for r s then r else s) rs

-- the earlier one of two clashes, where there are some
abbrev pub lesser : Option Clash → Option Clash → Option Clash
lesser None other = other
lesser (Some c) None = Some c
lesser (Some c) (Some d) = if clash_le c d then Some c else Some d
