use Rattle.ssr_names.specs.Private.Locals.{Keeps}
use Rattle.ssr_names.proofs.words.Words.add_arguments.Given as goal

abbrev pub invariant-loop-number : goal.invariant-loop-number
invariant-loop-number l = Keeps l.fn.self l.self
