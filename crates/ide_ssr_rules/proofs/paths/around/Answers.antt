use Rattle.std.proofs.Common.{refl}
use Rattle.ide_ssr_rules.proofs.PathPlaces.{own_parent}
use Rattle.ide_ssr_rules.proofs.paths.around.Goals as goal

pub returns-in-None-clause-parent : goal.returns-in-None-clause-parent
returns-in-None-clause-parent c = own_parent c.args.tree.now c.args.node.0 (c.in-None.ensures.root.0 refl)
