use Rattle.ssr_names.proofs.Printing.{none_lead}
use Rattle.ssr_names.proofs.reading.all_printed.Goals as goal

pub loop-place-init : goal.loop-place-init
loop-place-init c = none_lead c.args.printer.now.space.now c.args.wanted.now.definitions.items c.new-printed.result c.new-printed.ensures.empty

pub returns-then-is_empty : goal.returns-then-is_empty
returns-then-is_empty c = none_lead c.args.printer.now.space.now c.args.wanted.now.definitions.items c.new-printed.result c.new-printed.ensures.empty
