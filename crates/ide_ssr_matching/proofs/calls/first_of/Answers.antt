use Rattle.std.proofs.Common.{Some, cond, sym, ap, ◌∙◌}
use Rattle.ssr_syntax_kinds.specs.Kinds.{same_kind}
use Rattle.ssr_syntax_tree.specs.Places.{HasNode, node_of}
use Rattle.ide_ssr_matching.specs.Calls.{first_node}
use Rattle.ide_ssr_matching.specs.Private.ChildNodes.{nodes_at}
use Rattle.ide_ssr_matching.proofs.ChildNodes.{nodes_behind}
use Rattle.ide_ssr_matching.proofs.calls.first_of.Goals as goal

pub loop-node-preserved : goal.loop-node-preserved
loop-node-preserved c =
    let tree = c.args.tree.now in
    let kind = c.args.kind in
    let steps = c.in-Some.ensures.steps in
    let differs = ap (λ own. same_kind own kind) (sym c.kind.ensures) ∙ sym c.is.ensures.same ∙ c.if-is.false in
    record {
      so_far =
          ap (λ b. cond b (Some (node_of tree c.in-Some.node.0)) (first_node kind (nodes_at tree c.next.new.self))) (sym differs)
          ∙ ap (λ left. first_node kind (nodes_at tree left)) (sym steps)
          ∙ c.loop-node.invariant.so_far;
      had = nodes_behind (λ node. HasNode tree node.0) c.in-Some.node _ c.next.new.self steps c.loop-node.invariant.had;
    }
