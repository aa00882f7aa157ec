use Rattle.std.proofs.Common.{◌<◌, arith, sym, ◌∙◌, take}
use Rattle.ssr_syntax_tree.specs.Places.{HasNode, node_of}
use Rattle.ide_ssr_matching.specs.Calls.{child_nodes}
use Rattle.ide_ssr_matching.specs.Records.{has_label}
use Rattle.ide_ssr_matching.specs.Private.Records.{label_texts}
use Rattle.ide_ssr_matching.proofs.ChildNodes.{nodes_behind}
use Rattle.ide_ssr_matching.proofs.LabelSteps.{unlabelled_passes, taken_passed}
use Rattle.ide_ssr_matching.proofs.records.is_repeated.Goals as goal

pub returns-in_default : goal.returns-in_default
returns-in_default c =
    let tree = c.args.tree.now in
    unlabelled_passes tree c.args.node.0 (take c.args.count (child_nodes (node_of tree c.args.list.0))) c.label_of.result c.label_of.ensures.label
    c.in_default.is

pub loop-preserved : goal.loop-preserved
loop-preserved c =
    let tree = c.args.tree.now in
    let first = c.in-Some-next.other in
    let behind = c.next.new.self in
    let less : c.loop.counter < c.args.count = omega (arith, c.loop-test.true) in
    record {
      so_far =
          taken_passed tree first c.loop.nodes behind c.in-Some-next.ensures.steps (has_label (label_texts tree c.in-Some.label)) c.args.count c.loop.counter _
          less (sym c.has_label.ensures ∙ c.if-has_label.false) c.loop.invariant.so_far;
      within = omega arith;
      had = nodes_behind (λ node. HasNode tree node.0) first c.loop.nodes behind c.in-Some-next.ensures.steps c.loop.invariant.had;
    }
