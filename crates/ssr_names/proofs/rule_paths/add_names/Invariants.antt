use Rattle.ssr_names_items.specs.Names.{KeepsNumbers}
use Rattle.ssr_names.proofs.rule_paths.add_names.Given as goal

abbrev pub invariant-loop-segment : goal.invariant-loop-segment
invariant-loop-segment l = KeepsNumbers l.fn.names l.names
