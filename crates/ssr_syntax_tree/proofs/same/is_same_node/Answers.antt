use Rattle.ssr_syntax_tree.proofs.Agreeing.{node_tested}
use Rattle.ssr_syntax_tree.proofs.same.is_same_node.Goals as goal

pub returns : goal.returns
returns c = node_tested c.args.one c.args.other c.is.result c.is.ensures.decides.0 c.is.ensures.decides.1
