use Rattle.std.proofs.Common.{◌≡◌, ◌<◌, ◌-◌, ◌+◌, ℕ, List, Some, ap, arith, drop, get_or, length, slice_set, subst}
use Rattle.ssr_syntax_tree.specs.Syntax.{node_count}
use Rattle.ssr_swaps.specs.declared.swap.Swap.{Swap}
use Rattle.ssr_swaps.specs.Private.Swapping.{Tells}
use Rattle.ssr_swaps.proofs.Tables.{tells_more}
use Rattle.ssr_swaps.proofs.swapping.places.Goals as goal

pub loop-place-preserved-then-node-len : goal.loop-place-preserved-then-node-len
loop-place-preserved-then-node-len c =
    let swaps : List Swap = c.args.swaps.now in
    let place : ℕ = c.loop-place.place - 1 in
    let count : ℕ = 1 + node_count c.args.tree.now.children in
    let behind : place + 1 ≡ c.loop-place.place = omega arith in
    let so_far : Tells c.loop-place.table.items swaps (drop (place + 1) swaps) count =
    subst (λ (n : ℕ). Tells c.loop-place.table.items swaps (drop n swaps) count) (omega arith) c.loop-place.invariant in
    let same : c.index-swaps-place.result.node.0 ≡ (get_or swaps place c.index-swaps-place.result).node.0 = ap (λ (s : Swap). s.node.0) c.index-swaps-place.is in
    let within : c.index-swaps-place.result.node.0 < length c.loop-place.table.items = omega (arith, same, c.if-node-len.true, c.len.ensures, c.loop-place.table.ok) in
    subst (λ (s : Swap). Tells (slice_set c.loop-place.table.items s.node.0 (Some place)) swaps (drop place swaps) count) c.index-swaps-place.is
    (tells_more swaps place c.index-swaps-place.result (omega arith) c.index-swaps-place.is c.loop-place.table.items count within so_far)
