use Rattle.std.proofs.Common.{◌≤◌, drop, length}
use Rattle.ssr_package.specs.Private.Globs.{IsRow}
use Rattle.ssr_package.proofs.globs.characters_fit.Given as goal

-- the row is that of the name's end from here on
abbrev pub invariant-loop-start : goal.invariant-loop-start
invariant-loop-start l = record { inside : l.start ≤ length l.name; row : IsRow l.pattern (drop l.start l.name) l.row.items }

abbrev pub decreases-loop-start : goal.decreases-loop-start
decreases-loop-start l = l.start
