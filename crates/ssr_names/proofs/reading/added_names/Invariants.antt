use Rattle.ssr_names.specs.Declarations.{Declares}
use Rattle.ssr_names.proofs.reading.added_names.Given as goal

abbrev pub invariant-loop-text : goal.invariant-loop-text
invariant-loop-text l = Declares l.fn.table l.table
