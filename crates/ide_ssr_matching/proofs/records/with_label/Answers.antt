use Rattle.std.proofs.Common.{sym, ◌∙◌}
use Rattle.ssr_syntax_tree.specs.Places.{HasNode}
use Rattle.ide_ssr_matching.specs.Records.{has_label}
use Rattle.ide_ssr_matching.specs.Private.Records.{label_texts}
use Rattle.ide_ssr_matching.proofs.ChildNodes.{nodes_behind}
use Rattle.ide_ssr_matching.proofs.LabelSteps.{find_passed}
use Rattle.ide_ssr_matching.proofs.records.with_label.Goals as goal

pub loop-node-preserved : goal.loop-node-preserved
loop-node-preserved c =
    let code = c.args.code.now in
    let first = c.in-Some.node in
    let behind = c.next.new.self in
    record {
      so_far =
          find_passed code first _ behind c.in-Some.ensures.steps (has_label (label_texts c.args.tree.now c.args.label)) _
          (sym c.has_label.ensures ∙ c.if-has_label.false) c.loop-node.invariant.so_far;
      had = nodes_behind (λ node. HasNode code node.0) first _ behind c.in-Some.ensures.steps c.loop-node.invariant.had;
    }
