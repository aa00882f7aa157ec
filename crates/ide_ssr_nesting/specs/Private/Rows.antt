-- Private: rows by which the lists are sorted, and how the holders in lists lie.
use Rattle.std.specs.Prelude.{◌≡◌, Bool, Option, Some, IsSortedByKey, length, slice_get}
use Rattle.std.specs.Cmp.Lexicographic.{slice_cmp}
use Rattle.std.specs.Ordering.{is_lt, nat_cmp}
use Rattle.ssr_base_trees.specs.Workspace.{trees}
use Rattle.ide_ssr_bindings.specs.Found.{FoundMatch}
use Rattle.ide_ssr_nesting.specs.declared.holders.Holder.{Holder}
use Rattle.ide_ssr_nesting.specs.declared.lists.Row.{Row}
use Rattle.ide_ssr_nesting.specs.Holding.{Kept}
use Rattle.ide_ssr_nesting.specs.Lists.{Listing, holder_key, lists_key}

pub record IsRowOf (kept : Kept) (row : Row) : Type 0 where
  pub match : FoundMatch
  pub holder : Option Holder
  pub stands : slice_get kept.matches row.place ≡ Some match
  pub beside : slice_get kept.holders row.place ≡ Some holder
  pub key : row.key ≡ lists_key (trees kept.workspace) match holder

-- whether the list of one holder comes before that of the other
abbrev pub comes_before : Option Holder → Option Holder → Bool
comes_before g h = is_lt (slice_cmp nat_cmp (holder_key g) (holder_key h))

-- each place has its holder beside it, and the holders stand in order
pub record AreSorted (lists : Listing) : Type 0 where
  pub counted : length lists.holders ≡ length lists.places
  pub in_order : IsSortedByKey holder_key (slice_cmp nat_cmp) lists.holders
