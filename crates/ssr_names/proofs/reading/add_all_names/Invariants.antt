use Rattle.ssr_names.specs.Declarations.{Declares}
use Rattle.ssr_names.proofs.reading.add_all_names.Given as goal

abbrev pub invariant-loop-path : goal.invariant-loop-path
invariant-loop-path l = Declares l.fn.table l.table

abbrev pub invariant-loop-name : goal.invariant-loop-name
invariant-loop-name l = Declares l.fn.table l.table
