use Rattle.ssr_names.proofs.Collecting.{keeps_on}
use Rattle.ssr_names.proofs.words.Words.add_arguments.Goals as goal

pub loop-number-preserved : goal.loop-number-preserved
loop-number-preserved c = keeps_on _ _ _ c.loop-number.invariant c.in_ok-push_binder.ensures.kept
