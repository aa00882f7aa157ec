use Rattle.std.proofs.Common.{ap, arith}
use Rattle.ssr_syntax_tree.proofs.Places.{parent_before}
use Rattle.ssr_syntax_tree.proofs.tree.Tree.parent.Goals as goal

pub returns-clause-has : goal.returns-clause-has
returns-clause-has c =
    omega (arith, ap (λ row. row.parent) c.row.ensures.value, parent_before c.args.self.now c.args.node.0 c.requires (omega arith), c.requires)
