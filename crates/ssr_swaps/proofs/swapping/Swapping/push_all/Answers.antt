use Rattle.std.proofs.Common.{◌≡◌, ◌<◌, ◌∙◌, ◌+◌, ◌-◌, ◌++◌, ℕ, List, Option, ap, arith, drop, map, refl, sym}
use Rattle.std.proofs.lemmas.List.{append-nil}
use Rattle.ssr_syntax_tree.specs.Places.{HasNode, Node, nodes_of}
use Rattle.ssr_syntax_tree.specs.Syntax.{Syntax}
use Rattle.ssr_swaps.specs.Swapped.{swap_at}
use Rattle.ssr_swaps.specs.Private.Marks.{PlainMark, shown}
use Rattle.ssr_swaps.specs.Private.Swapping.{left}
use Rattle.ssr_swaps.proofs.Left.{all_of_it, none_left, passed_here}
use Rattle.ssr_swaps.proofs.swapping.Swapping.push_all.Goals as goal

pub loop-number-init : goal.loop-number-init
loop-number-init c = refl

pub loop-number-preserved-then-number-done : goal.loop-number-preserved-then-number-done
loop-number-preserved-then-number-done c =
    let at : ℕ → Option Syntax = swap_at c.args.self.now.swaps.now in
    let tree : Syntax = c.args.self.now.tree.now in
    let n : ℕ = c.loop-number.number in
    let has : HasNode tree n = omega arith in
    let low : n < c.loop-number.done + 1 = omega arith in
    ap (λ (marks : List PlainMark). map shown c.loop-number.marks.items ++ marks) (passed_here at tree n (c.loop-number.done + 1) has low)
    ∙ c.loop-number.invariant

pub loop-number-preserved : goal.loop-number-preserved
loop-number-preserved c =
    let at : ℕ → Option Syntax = swap_at c.args.self.now.swaps.now in
    let nodes : List Node = nodes_of c.args.self.now.tree.now in
    let n : ℕ = c.loop-number.number in
    let done : ℕ = c.in_ok-done.done in
    let here : done + 1 - (n + 1) ≡ done - n = omega arith in
    let none : 0 ≡ c.loop-number.done + 1 - n = omega arith in
    ap (λ (k : ℕ). map shown c.push_at.new.marks.items ++ left at k (drop (n + 1) nodes)) here
    ∙ c.in_ok-done.ensures.marks
    ∙ ap (λ (k : ℕ). map shown c.loop-number.marks.items ++ left at k (drop n nodes)) none
    ∙ c.loop-number.invariant

pub returns : goal.returns
returns c =
    let at : ℕ → Option Syntax = swap_at c.args.self.now.swaps.now in
    let tree : Syntax = c.args.self.now.tree.now in
    let front : List PlainMark = map shown c.loop-number.marks.items in
    sym (append-nil front)
    ∙ ap (λ (marks : List PlainMark). front ++ marks) (sym (none_left at tree c.loop-number.number (c.loop-number.done + 1 - c.loop-number.number) (omega arith)))
    ∙ c.loop-number.invariant
    ∙ ap (λ (marks : List PlainMark). marks ++ left at 0 (drop 1 (nodes_of tree))) c.in_ok-push_node.ensures
    ∙ all_of_it at tree (map shown c.args.marks.now.items)
