use Rattle.std.proofs.Common.{arith}
use Rattle.ssr_syntax_tree.proofs.Shared.{below_fits}
use Rattle.ide_ssr_rewriting.proofs.rendering.below_unless.Goals as goal

pub returns-else-look-clause-within : goal.returns-else-look-clause-within
returns-else-look-clause-within c = omega (arith, below_fits c.args.tree.now c.args.node.0 c.requires, c.below.ensures)
