use Rattle.cargo_ssr_program.specs.Private.Telling.{TellsOnly}
use Rattle.cargo_ssr_program.proofs.undecided.tell_undecided.Given as goal

abbrev pub invariant-loop-place : goal.invariant-loop-place
invariant-loop-place g l = TellsOnly l.initial.console l.console
