use Rattle.ssr_names.specs.Private.Printed.{AllLead}
use Rattle.ssr_names.proofs.reading.add_printed.Given as goal

abbrev pub invariant-loop-def : goal.invariant-loop-def
invariant-loop-def l = AllLead l.printer.space.now l.wanted.definitions.items l.fn.printed → AllLead l.printer.space.now l.wanted.definitions.items l.printed
