use Rattle.ssr_syntax_tree.specs.Places.{HasNode}
use Rattle.ide_ssr_matching.proofs.ChildNodes.{nodes_behind}
use Rattle.ide_ssr_matching.proofs.LabelSteps.{is_labelled, labelled_passed}
use Rattle.ide_ssr_matching.proofs.records.are_labelled.Goals as goal

pub loop-node-preserved : goal.loop-node-preserved
loop-node-preserved c =
    let tree = c.args.tree.now in
    let first = c.in-Some.node in
    let behind = c.next.new.self in
    record {
      so_far =
          labelled_passed tree first _ behind c.in-Some.ensures.steps _
          (is_labelled tree first.0 c.label_of.result _ c.label_of.ensures.label c.is_none.ensures c.if-is_none.false) c.loop-node.invariant.so_far;
      had = nodes_behind (λ node. HasNode tree node.0) first _ behind c.in-Some.ensures.steps c.loop-node.invariant.had;
    }
