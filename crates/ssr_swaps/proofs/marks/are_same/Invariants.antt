use Rattle.std.proofs.Common.{◌≡◌, map, take}
use Rattle.ssr_swaps.specs.Private.Marks.{shown}
use Rattle.ssr_swaps.proofs.marks.are_same.Given as goal

abbrev pub invariant-loop-number : goal.invariant-loop-number
invariant-loop-number l = take l.number (map shown l.marks) ≡ take l.number (map shown l.others)
