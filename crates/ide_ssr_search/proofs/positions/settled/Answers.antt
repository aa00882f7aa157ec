use Rattle.std.proofs.Common.{arith}
use Rattle.ssr_syntax_tree.proofs.Shared.{below_fits}
use Rattle.ide_ssr_search.proofs.positions.settled.Goals as goal

pub returns-then-below-gt0-clause-has : goal.returns-then-below-gt0-clause-has
returns-then-below-gt0-clause-has c = omega (arith, below_fits c.args.tree.now c.args.node.0 c.requires)
