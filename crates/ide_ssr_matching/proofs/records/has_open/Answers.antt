use Rattle.std.proofs.Common.{sym, ◌∙◌}
use Rattle.ssr_syntax_tree.specs.Places.{HasNode}
use Rattle.ide_ssr_matching.specs.Records.{is_open}
use Rattle.ide_ssr_matching.proofs.ChildNodes.{nodes_behind}
use Rattle.ide_ssr_matching.proofs.LabelSteps.{any_passed}
use Rattle.ide_ssr_matching.proofs.records.has_open.Goals as goal

pub loop-node-preserved : goal.loop-node-preserved
loop-node-preserved c =
    let pattern = c.args.pattern.now in
    let first = c.in-Some.node in
    let behind = c.next.new.self in
    record {
      so_far =
          any_passed pattern first _ behind c.in-Some.ensures.steps (is_open c.args.rule.now) _ (sym c.is_open.ensures ∙ c.if-is_open.false)
          c.loop-node.invariant.so_far;
      had = nodes_behind (λ node. HasNode pattern node.0) first _ behind c.in-Some.ensures.steps c.loop-node.invariant.had;
    }
