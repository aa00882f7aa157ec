use Rattle.ssr_names_items.specs.Names.{KeepsNumbers}
use Rattle.ssr_names.proofs.preparing.add_prelude.Given as goal

abbrev pub invariant-loop-known : goal.invariant-loop-known
invariant-loop-known l = KeepsNumbers l.fn.names l.names
