use Rattle.std.proofs.Common.{refl, arith}
use Rattle.ssr_syntax_tree.specs.Places.{node_of}
use Rattle.ssr_syntax_tree.proofs.Places.{elements_had, length-elements_of}
use Rattle.ssr_syntax_tree.proofs.Steps.{first_step}
use Rattle.ssr_syntax_tree.proofs.children.Children.new.Goals as goal

pub invariant_of-result : goal.invariant_of-result
invariant_of-result c =
    first_step _ c.requires refl c.nodes_below-nodes.ensures.start c.tokens_below-tokens.ensures.start c.nodes_below-nodes.ensures.end c.tokens_below-tokens.ensures.end

pub returns-clause-few : goal.returns-clause-few
returns-clause-few c =
    let node = node_of c.args.tree.now c.args.node.0 in
    omega (arith, length-elements_of node, c.nodes_below-nodes.ensures.end, c.tokens_below-tokens.ensures.end)

pub returns-clause-had : goal.returns-clause-had
returns-clause-had c = elements_had c.args.tree.now c.args.node.0 c.requires
