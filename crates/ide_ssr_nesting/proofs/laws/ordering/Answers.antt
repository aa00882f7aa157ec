use Rattle.ssr_base_trees.specs.Workspace.{trees}
use Rattle.ide_ssr_nesting.proofs.Above.{below_is_between, one_place_each, one_way_up}
use Rattle.ide_ssr_nesting.proofs.laws.ordering.Goals as goal

pub returns-clause-below : goal.returns-clause-below
returns-clause-below c w built = below_is_between (trees w) built.grown

pub returns-clause-one : goal.returns-clause-one
returns-clause-one c w built = one_place_each (trees w) built.grown

pub returns-clause-one_way : goal.returns-clause-one_way
returns-clause-one_way c w built = one_way_up (trees w) built.grown
