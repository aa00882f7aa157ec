use Rattle.std.proofs.Common.{◌≡◌, map, take}
use Rattle.ssr_changes.specs.Matching.{held_by, held_of}
use Rattle.ssr_changes.proofs.matching.placeholders.Given as goal

abbrev pub invariant-loop-placeholder : goal.invariant-loop-placeholder
invariant-loop-placeholder l = map held_by l.told.items ≡ map held_of (take l.placeholder-index l.placeholders)
