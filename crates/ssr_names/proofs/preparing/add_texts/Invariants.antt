use Rattle.ssr_names_items.specs.Names.{KeepsNumbers}
use Rattle.ssr_names.proofs.preparing.add_texts.Given as goal

abbrev pub invariant-loop-text : goal.invariant-loop-text
invariant-loop-text l = KeepsNumbers l.fn.names l.names
