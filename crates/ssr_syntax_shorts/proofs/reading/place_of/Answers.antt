use Rattle.std.proofs.Common.{arith}
use Rattle.ssr_syntax_tree.specs.Places.{HasToken}
use Rattle.ssr_syntax_shorts.proofs.Steps.{number_more}
use Rattle.ssr_syntax_shorts.proofs.reading.place_of.Goals as goal

pub loop-before-preserved : goal.loop-before-preserved
loop-before-preserved c =
    let has : HasToken c.args.tree.now c.loop-before.before = omega arith in
    record {
      sum = omega (arith, c.loop-before.invariant.sum, c.size_of-number.ensures.value, number_more c.args.tree.now c.loop-before.before has);
      few = omega (arith, c.loop-before.invariant.few, c.size_of-number.ensures.few);
    }
