use Rattle.ssr_names.specs.Private.Settling.{IsAnswered}
use Rattle.ssr_names.proofs.imports.settle_by_doubt.Given as goal

abbrev pub invariant-loop : goal.invariant-loop
invariant-loop l = IsAnswered l.fn.space l.space
