use Rattle.std.proofs.Common.{take}
use Rattle.ssr_names.specs.Private.Answered.{IsFoundAmong, is_import}
use Rattle.ssr_names.proofs.space.Space.imported.Given as goal

abbrev pub invariant-loop-entry : goal.invariant-loop-entry
invariant-loop-entry l = IsFoundAmong l.self l.«module» l.question (take l.entry-index l.entries) is_import l.found
