use Rattle.cargo_ssr_program.specs.Private.Telling.{TellsOnly}
use Rattle.cargo_ssr_program.proofs.input.tell_unread.Given as goal

abbrev pub invariant-loop-file : goal.invariant-loop-file
invariant-loop-file g l = TellsOnly l.initial.console l.console
