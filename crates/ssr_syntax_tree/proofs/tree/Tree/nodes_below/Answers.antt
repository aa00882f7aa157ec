use Rattle.std.proofs.Common.{ap, arith}
use Rattle.ssr_syntax_tree.proofs.Places.{below_fits}
use Rattle.ssr_syntax_tree.proofs.tree.Tree.nodes_below.Goals as goal

pub overflow_add-result-3 : goal.overflow_add-result-3
overflow_add-result-3 c = omega (arith, ap (λ row. row.below) c.row-row.ensures.value, below_fits c.args.self.now c.args.node.0 c.requires, c.row-row.ensures.few)

pub returns-clause-has : goal.returns-clause-has
returns-clause-has c = omega (arith, ap (λ row. row.below) c.row-row.ensures.value, below_fits c.args.self.now c.args.node.0 c.requires)
