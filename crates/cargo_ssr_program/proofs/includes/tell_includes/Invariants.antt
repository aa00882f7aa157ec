use Rattle.cargo_ssr_program.specs.Private.Telling.{TellsOnly}
use Rattle.cargo_ssr_program.proofs.includes.tell_includes.Given as goal

abbrev pub invariant-loop-include : goal.invariant-loop-include
invariant-loop-include g l = TellsOnly l.initial.console l.console
