use Rattle.ssr_names.specs.Private.Settling.{IsAnswered}
use Rattle.ssr_names.proofs.imports.settle_in_passes.Given as goal

abbrev pub invariant-loop-number : goal.invariant-loop-number
invariant-loop-number l = IsAnswered l.fn.space l.space
