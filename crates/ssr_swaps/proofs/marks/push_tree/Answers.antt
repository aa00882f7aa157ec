use Rattle.std.proofs.Common.{◌∙◌, ◌++◌, ℕ, List, ap, arith, map, sym}
use Rattle.std.proofs.lemmas.List.{append-nil}
use Rattle.ssr_syntax_tree.specs.Places.{HasNode, node_of}
use Rattle.ssr_swaps.specs.Private.Marks.{PlainMark, node_marks, shown}
use Rattle.ssr_swaps.proofs.NodeMarks.{node_more, nodes_all}
use Rattle.ssr_swaps.proofs.marks.push_tree.Goals as goal

pub loop-number-init : goal.loop-number-init
loop-number-init c = sym (append-nil (map shown c.args.marks.now.items))

pub loop-number-preserved : goal.loop-number-preserved
loop-number-preserved c =
    let tree = c.args.tree.now in
    let n : ℕ = c.loop-number.number in
    let has : HasNode tree n = omega arith in
    c.in_ok-push_node.ensures ∙ ap (λ (marks : List PlainMark). marks ++ node_marks (node_of tree n)) c.loop-number.invariant
    ∙ node_more tree (map shown c.args.marks.now.items) n has

pub returns : goal.returns
returns c =
    c.loop-number.invariant ∙ ap (λ (marks : List PlainMark). map shown c.args.marks.now.items ++ marks) (nodes_all c.args.tree.now c.loop-number.number (omega arith))
