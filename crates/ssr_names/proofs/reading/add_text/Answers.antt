use Rattle.ssr_names.proofs.Printing.{added_at}
use Rattle.ssr_names.proofs.reading.add_text.Goals as goal

pub returns : goal.returns
returns c = added_at c.args.printed.now c.insert.new.self c.args.key c.args.text c.in_ok-insert.ensures.updates
