use Rattle.std.proofs.Common.{refl}
use Rattle.ssr_standing.proofs.Below.{own_parent}
use Rattle.ssr_standing.proofs.argument_names.around.Goals as goal

pub returns-in-None-clause-parent : goal.returns-in-None-clause-parent
returns-in-None-clause-parent c = own_parent c.args.tree.now c.args.node.0 (c.in-None.ensures.root.0 refl)
