use Rattle.std.proofs.Common.{arith}
use Rattle.ssr_standing.proofs.Pairwise.{all_moulds}
use Rattle.ssr_standing.proofs.runs.have_same_tokens.Goals as goal

pub returns : goal.returns
returns c = λ _.
    let one = c.args.one in
    let two = c.args.two in
    all_moulds one.tree.now two.tree.now one.node.0 two.node.0 one.has two.has one.token two.token one.begins two.begins
    (omega (arith, one.ends, two.ends, c.if-one-two.false)) (omega (arith, one.begins, one.ends, one.within)) (omega (arith, two.begins, two.ends, two.within))
    (λ k less. c.loop-number.invariant k (omega (arith, less, one.ends, c.loop-number-test.false)))
