use Rattle.ssr_names.specs.Private.Printed.{AllLead}
use Rattle.ssr_names.proofs.reading.all_printed.Given as goal

abbrev pub invariant-loop-place : goal.invariant-loop-place
invariant-loop-place l = AllLead l.printer.space.now l.wanted.definitions.items l.printed
