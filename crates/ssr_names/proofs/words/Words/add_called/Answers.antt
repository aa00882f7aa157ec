use Rattle.std.proofs.Common.{arith}
use Rattle.ssr_names.proofs.Collecting.{keeps_itself, keeps_on, no_words, next_word, all_words}
use Rattle.ssr_names.proofs.words.Words.add_called.Goals as goal

pub loop-number-init : goal.loop-number-init
loop-number-init c = record {
  kept = keeps_itself c.args.self.now;
  collected = no_words c.args.tree.now c.args.self.now c.args.node _ c.tokens_below-tokens.ensures.start;
}

pub loop-number-preserved : goal.loop-number-preserved
loop-number-preserved c = record {
  kept = keeps_on _ _ _ c.loop-number.invariant.kept c.in_ok-add_word.ensures.kept;
  collected =
      next_word c.args.tree.now c.args.node c.loop-number.self c.add_word.new.self c.loop-number.number c.in_ok-add_word.ensures.kept
      c.in_ok-add_word.ensures.collected c.loop-number.invariant.collected;
}

pub returns-clause-collected : goal.returns-clause-collected
returns-clause-collected c =
    all_words c.args.tree.now c.args.node c.loop-number.self c.loop-number.number (omega (arith, c.tokens_below-tokens.ensures.end, c.loop-number-test.false))
    c.loop-number.invariant.collected
