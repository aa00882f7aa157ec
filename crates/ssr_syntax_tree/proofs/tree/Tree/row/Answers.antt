use Rattle.ssr_syntax_tree.proofs.RowLaws.{node_within, node_row-is, nodes_few}
use Rattle.ssr_syntax_tree.proofs.tree.Tree.row.Goals as goal

pub row-requires : goal.row-requires
row-requires c = node_within c.self.inside c.args.self.now c.self.invariant c.self.view_is c.args.node.0 c.requires

pub returns-clause-value : goal.returns-clause-value
returns-clause-value c = node_row-is c.self.inside c.args.self.now c.self.invariant c.self.view_is c.args.node.0 c.row.result c.requires c.row.ensures

pub returns-clause-few : goal.returns-clause-few
returns-clause-few c = nodes_few c.self.inside c.args.self.now c.self.invariant c.self.view_is
