use Rattle.std.proofs.Common.{◌≡◌, ◌++◌, map, take}
use Rattle.ssr_changes.specs.Debugging.{told_by, told_of}
use Rattle.ssr_changes.proofs.debugging.push_entries.Given as goal

abbrev pub invariant-loop-info : goal.invariant-loop-info
invariant-loop-info l =
    map told_by l.entries.items ≡ map told_by l.initial.entries.items ++ map (told_of l.owners l.workspace) (take l.info-index l.told)
