use Rattle.ssr_names_items.specs.Names.{KeepsNumbers}
use Rattle.ssr_names.proofs.preparing.add_second_names.Given as goal

abbrev pub invariant-loop-second : goal.invariant-loop-second
invariant-loop-second l = KeepsNumbers l.fn.names l.names
