use Rattle.ssr_names.proofs.Telling.{still_declares}
use Rattle.ssr_names.proofs.reading.added_names.Goals as goal

pub loop-text-preserved : goal.loop-text-preserved
loop-text-preserved c = still_declares c.args.table.now c.loop-text.table c.add.new.self c.loop-text.invariant c.in_ok-add.ensures.kept
