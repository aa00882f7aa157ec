use Rattle.std.proofs.Common.{arith}
use Rattle.std.specs.String.{string_bytes}
use Rattle.ssr_syntax_tree.proofs.RowLaws.{are_parts, nodes_counted}
use Rattle.ssr_syntax_tree.proofs.tree.Tree.node_count.Goals as goal

pub returns : goal.returns
returns c =
    omega (
      arith,
      c.len.ensures,
      nodes_counted (string_bytes c.self.inside.source) c.self.inside.tokens c.self.inside.nodes c.args.self.now (are_parts c.self.inside c.args.self.now c.self.invariant c.self.view_is),
    )
