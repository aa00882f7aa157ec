-- What a search hands on to be nested.
use Rattle.std.specs.Prelude.{List}
use Rattle.ssr_base_trees.specs.Workspace.{trees}
use Rattle.ide_ssr_bindings.specs.Found.{FoundMatch, AreMatches}
use Rattle.ide_ssr_nesting.specs.Kept.{AreEnough}
use Rattle.ide_ssr_search.specs.Found.{IsFound}
use Rattle.ide_ssr.specs.Finder.{Finder}

-- what a finder's rules match, in any order, but for what is shadowed
abbrev pub IsEnoughFound : Finder → List FoundMatch → Type 0
IsEnoughFound finder found =
    AreMatches (trees finder.workspace) found × AreEnough (trees finder.workspace) (IsFound finder.workspace finder.meanings finder.context finder.rules) found
