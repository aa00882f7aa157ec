use Rattle.std.proofs.Common.{sym, subst}
use Rattle.ssr_base_trees.specs.Workspace.{Workspace}
use Rattle.ssr_base.specs.Building.{AreRead}
use Rattle.ssr_base.proofs.Built.{built_trees}
use Rattle.ssr_base.proofs.workspace.Workspace.of_trees_of.Goals as goal

pub of_files_of-requires : goal.of_files_of-requires
of_files_of-requires c = built_trees c.args.reach c.args.trees.items c.requires.few c.requires.read

pub invariant_of-result : goal.invariant_of-result
invariant_of-result c = subst (λ (w : Workspace). AreRead w) (sym c.of_files_of.ensures) c.requires.read
