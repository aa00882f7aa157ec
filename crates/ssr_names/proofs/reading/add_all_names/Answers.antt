use Rattle.ssr_names.proofs.Telling.{still_declares}
use Rattle.ssr_names.proofs.reading.add_all_names.Goals as goal

pub loop-path-preserved : goal.loop-path-preserved
loop-path-preserved c = still_declares c.args.table.now c.loop-path.table c.add_names.new.names c.loop-path.invariant c.in_ok-add_names.ensures

pub loop-name-init : goal.loop-name-init
loop-name-init c = still_declares c.args.table.now c.loop-path.table c.add_std_names.new.names c.loop-path.invariant c.in_ok-add_std_names.ensures

pub loop-name-preserved : goal.loop-name-preserved
loop-name-preserved c = still_declares c.args.table.now c.loop-name.table c.add.new.self c.loop-name.invariant c.in_ok-add.ensures.kept
