use Rattle.std.proofs.Common.{◌+◌, drop}
use Rattle.ssr_syntax_tree.specs.Syntax.{node_count}
use Rattle.ssr_swaps.specs.Private.Swapping.{Tells}
use Rattle.ssr_swaps.proofs.swapping.places.Given as goal

abbrev pub invariant-loop-place : goal.invariant-loop-place
invariant-loop-place l = Tells l.table.items l.swaps (drop l.place l.swaps) (1 + node_count l.fn.tree.children)
