use Rattle.std.proofs.Common.{◌+◌, arith}
use Rattle.ssr_syntax_tree.proofs.Shared.{below_fits, firsts_grow}
use Rattle.ssr_standing.proofs.Pairwise.{all_shapes}
use Rattle.ssr_standing.proofs.runs.have_same_nodes.Goals as goal

pub is_same_node-requires-clause-node : goal.is_same_node-requires-clause-node
is_same_node-requires-clause-node c =
    let one = c.args.one in
    omega (arith, c.loop-number-test.true, one.nodes, below_fits one.tree.now one.node.0 one.has)

pub is_same_node-requires-clause-other : goal.is_same_node-requires-clause-other
is_same_node-requires-clause-other c =
    let two = c.args.two in
    omega (arith, c.loop-number-test.true, c.if-one-two.false, two.nodes, below_fits two.tree.now two.node.0 two.has)

pub is_same_node-requires-clause-first : goal.is_same_node-requires-clause-first
is_same_node-requires-clause-first c =
    let one = c.args.one in
    omega (
      arith,
      one.begins,
      firsts_grow one.tree.now one.node.0 (one.node.0 + c.loop-number.number) one.has (is_same_node-requires-clause-node c) (omega (arith, c.loop-number.auto.number)),
    )

pub is_same_node-requires-clause-other_first : goal.is_same_node-requires-clause-other_first
is_same_node-requires-clause-other_first c =
    let two = c.args.two in
    omega (
      arith,
      two.begins,
      firsts_grow two.tree.now two.node.0 (two.node.0 + c.loop-number.number) two.has (is_same_node-requires-clause-other c) (omega (arith, c.loop-number.auto.number)),
    )

pub returns : goal.returns
returns c = λ _.
    let one = c.args.one in
    let two = c.args.two in
    all_shapes one.tree.now two.tree.now one.node.0 two.node.0 one.has two.has one.token two.token one.begins two.begins
    (omega (arith, one.nodes, two.nodes, c.if-one-two.false))
    (omega (arith, below_fits one.tree.now one.node.0 one.has)) (omega (arith, below_fits two.tree.now two.node.0 two.has))
    (λ k less. c.loop-number.invariant k (omega (arith, less, one.nodes, c.loop-number-test.false)))
