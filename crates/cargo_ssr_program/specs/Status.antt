-- The status of a run whose words are read.
use Rattle.std.specs.Prelude.{ℕ, Result, Ok, Err}
use Rattle.cargo_ssr_program.specs.declared.program.Outcome.{Outcome}
use Rattle.cargo_ssr_program.specs.declared.program.Outcome.TheVariants.{Done, WouldChange}
use Rattle.cargo_ssr_program.specs.declared.failure.Failure.{Failure}

abbrev pub status_of : Result Outcome Failure → ℕ
status_of (Ok Done) = 0
status_of (Ok WouldChange) = 1
status_of (Err failure) = 3
