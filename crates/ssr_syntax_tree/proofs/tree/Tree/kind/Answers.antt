use Rattle.ssr_syntax_tree.proofs.RowLaws.{node_within, node_kind-is}
use Rattle.ssr_syntax_tree.proofs.tree.Tree.kind.Goals as goal

pub kind-requires : goal.kind-requires
kind-requires c = node_within c.self.inside c.args.self.now c.self.invariant c.self.view_is c.args.node.0 c.requires

pub returns : goal.returns
returns c = node_kind-is c.self.inside c.args.self.now c.self.invariant c.self.view_is c.args.node.0 c.kind.result c.requires c.kind.ensures
