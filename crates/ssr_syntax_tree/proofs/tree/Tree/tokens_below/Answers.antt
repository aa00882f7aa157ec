use Rattle.std.proofs.Common.{ap, arith}
use Rattle.ssr_syntax_tree.proofs.Places.{tokens_fit}
use Rattle.ssr_syntax_tree.proofs.tree.Tree.tokens_below.Goals as goal

pub returns-clause-has : goal.returns-clause-has
returns-clause-has c = omega (arith, ap (λ row. row.past) c.row-row.ensures.value, tokens_fit c.args.self.now c.args.node.0 c.requires)
