use Rattle.std.proofs.Common.{◌≡◌, map, take}
use Rattle.ssr_changes.specs.Matching.{found_by, found_of}
use Rattle.ssr_changes.proofs.matching.places.Given as goal

abbrev pub invariant-loop-m : goal.invariant-loop-m
invariant-loop-m l = map found_by l.places.items ≡ map (found_of l.owners l.files.files) (take l.m-index l.matches)
