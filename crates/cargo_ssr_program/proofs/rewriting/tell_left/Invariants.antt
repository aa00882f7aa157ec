use Rattle.cargo_ssr_program.specs.Private.Telling.{TellsOnly}
use Rattle.cargo_ssr_program.proofs.rewriting.tell_left.Given as goal

abbrev pub invariant-loop-change : goal.invariant-loop-change
invariant-loop-change g l = TellsOnly l.initial.console l.console
