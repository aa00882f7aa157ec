-- What a finder's search comes to: the matches that are found, those of them that are kept, and the lists of these.
use Rattle.std.specs.Prelude.{◌≡◌, List}
use Rattle.ssr_base_trees.specs.Workspace.{trees}
use Rattle.ide_ssr_bindings.specs.Found.{FoundMatch}
use Rattle.ide_ssr_nesting.specs.Holding.{Kept, IsKept}
use Rattle.ide_ssr_nesting.specs.Kept.{AreKept}
use Rattle.ide_ssr_nesting.specs.Lists.{Listing, AreLists}
use Rattle.ide_ssr_search.specs.Found.{AreFound}
use Rattle.ide_ssr.specs.Finder.{Finder}

-- there is one outcome, as the law `laws::searching` says
pub record IsOutcome (finder : Finder) (kept : Kept) (lists : Listing) : Type 0 where
  pub found : List FoundMatch
  pub are_found : AreFound finder.workspace finder.meanings finder.context finder.rules found
  pub workspace : kept.workspace ≡ finder.workspace
  pub are_kept : AreKept (trees finder.workspace) found kept.matches
  pub is_kept : IsKept kept
  pub are_lists : AreLists kept lists
