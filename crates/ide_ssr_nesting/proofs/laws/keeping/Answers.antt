use Rattle.ssr_base_trees.specs.Workspace.{trees}
use Rattle.ide_ssr_nesting.proofs.OneKept.{one_kept, lies_in_one}
use Rattle.ide_ssr_nesting.proofs.Shadowed.{kept_of_enough}
use Rattle.ide_ssr_nesting.proofs.SomeKept.{kept_exist}
use Rattle.ide_ssr_nesting.proofs.laws.keeping.Goals as goal

pub returns-clause-exist : goal.returns-clause-exist
returns-clause-exist c = kept_exist

pub returns-clause-one_kept : goal.returns-clause-one_kept
returns-clause-one_kept c w built = one_kept (trees w) built.grown

pub returns-clause-of_enough : goal.returns-clause-of_enough
returns-clause-of_enough c w = kept_of_enough (trees w)

pub returns-clause-one_placeholder : goal.returns-clause-one_placeholder
returns-clause-one_placeholder c w built = lies_in_one (trees w) built.grown
