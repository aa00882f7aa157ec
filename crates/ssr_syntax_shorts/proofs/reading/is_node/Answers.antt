use Rattle.std.proofs.Common.{◌+◌, ◌==◌, sym, arith}
use Rattle.ssr_syntax_tree.specs.Places.{HasNode, node_of, start_of, end_of}
use Rattle.std.proofs.lemmas.Bool.{and_from, eq-eqb}
use Rattle.ssr_syntax_shorts.proofs.Steps.{node_found, node_missing}
use Rattle.ssr_syntax_shorts.proofs.reading.is_node.Goals as goal

pub returns-then-range-to : goal.returns-then-range-to
returns-then-range-to c =
    let tree = c.args.tree.now in
    let n = c.loop-node.node in
    let has : HasNode tree n = omega arith in
    sym (node_found tree c.args.from c.args.to n has
    (and_from (0 + start_of tree (node_of tree n) == c.args.from) (0 + end_of tree (node_of tree n) == c.args.to)
    (eq-eqb (0 + start_of tree (node_of tree n)) c.args.from (omega (arith, c.range-range.ensures.start, c.if-range-from.true)))
    (eq-eqb (0 + end_of tree (node_of tree n)) c.args.to (omega (arith, c.range-range.ensures.end, c.if-range-to.true)))))

pub returns : goal.returns
returns c = sym (node_missing c.args.tree.now c.args.from c.args.to (λ n has. c.loop-node.invariant n (omega arith)))
