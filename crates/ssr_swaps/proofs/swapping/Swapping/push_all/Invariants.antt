use Rattle.std.proofs.Common.{◌≡◌, ◌+◌, ◌-◌, ◌++◌, drop, map}
use Rattle.ssr_syntax_tree.specs.Places.{nodes_of}
use Rattle.ssr_swaps.specs.Swapped.{swap_at}
use Rattle.ssr_swaps.specs.Private.Marks.{shown}
use Rattle.ssr_swaps.specs.Private.Swapping.{left}
use Rattle.ssr_swaps.proofs.swapping.Swapping.push_all.Given as goal

abbrev pub invariant-loop-number : goal.invariant-loop-number
invariant-loop-number l =
    let at = swap_at l.self.swaps.now in
    let nodes = nodes_of l.self.tree.now in
    map shown l.marks.items ++ left at (l.done + 1 - l.number) (drop l.number nodes) ≡ map shown l.initial.marks.items ++ left at 0 (drop 1 nodes)
