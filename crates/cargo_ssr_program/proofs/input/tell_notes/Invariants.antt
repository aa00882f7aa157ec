use Rattle.cargo_ssr_program.specs.Private.Telling.{TellsOnly}
use Rattle.cargo_ssr_program.proofs.input.tell_notes.Given as goal

abbrev pub invariant-loop-note : goal.invariant-loop-note
invariant-loop-note g l = TellsOnly l.initial.console l.console
