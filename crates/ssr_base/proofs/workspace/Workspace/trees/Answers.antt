use Rattle.std.proofs.Common.{subst}
use Rattle.ssr_base_trees.specs.Workspace.{Workspace}
use Rattle.ssr_base.specs.Building.{AreRead}
use Rattle.ssr_base.proofs.workspace.Workspace.trees.Goals as goal

pub returns-clause-read : goal.returns-clause-read
returns-clause-read c = subst (λ (w : Workspace). AreRead w) c.self.view_is c.self.invariant
