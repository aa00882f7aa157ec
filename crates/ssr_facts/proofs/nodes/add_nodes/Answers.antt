use Rattle.std.proofs.Common.{sym, ap, ◌∙◌, arith}
use Rattle.std.proofs.lemmas.List.{take_all}
use Rattle.std.specs.Option.{option_or}
use Rattle.ssr_syntax_kinds.specs.Kinds.{same_kind}
use Rattle.ssr_syntax_tree.specs.Places.{HasNode, nodes_of}
use Rattle.ssr_syntax_tree.proofs.Shared.{length-nodes_of}
use Rattle.ssr_facts.specs.Private.Nodes.{at_place, found_among}
use Rattle.ssr_facts.proofs.Places.{node_added, node_left_out}
use Rattle.ssr_facts.proofs.nodes.add_nodes.Goals as goal
use Rattle.ssr_facts.proofs.nodes.add_nodes.Goals.{then-eq+in_ok-add_first, else-eq}

pub loop-node-preserved : goal.loop-node-preserved
loop-node-preserved c =
    let tree = c.args.tree.now in
    let n = c.loop-node.node in
    let has : HasNode tree n = omega (arith, c.node_count-node-end.ensures) in
    λ place. elim c.if-eq.branch [
      | then-eq+in_ok-add_first w ↦
          node_added c.args.number tree c.args.kind place n has (at_place c.args.nodes.now place) (at_place c.loop-node.nodes place) (at_place c.if-eq.nodes place)
          (c.loop-node.invariant place) w.place.result w.place.ensures
          (ap (λ kind. same_kind kind c.args.kind) (sym c.kind.ensures) ∙ sym c.eq.ensures ∙ w.if-eq.true)
          (ap (λ nodes. at_place nodes place) w.nodes-is ∙ w.in_ok-add_first.ensures place)
      | else-eq w ↦
          node_left_out c.args.number tree c.args.kind place n has (at_place c.args.nodes.now place) (at_place c.loop-node.nodes place) (at_place c.if-eq.nodes place)
          (c.loop-node.invariant place)
          (ap (λ kind. same_kind kind c.args.kind) (sym c.kind.ensures) ∙ sym c.eq.ensures ∙ w.if-eq.false)
          (ap (λ nodes. at_place nodes place) w.nodes-is)
    ]

pub returns : goal.returns
returns c =
    let tree = c.args.tree.now in
    λ place. c.loop-node.invariant place
    ∙ ap (λ nodes. option_or (at_place c.args.nodes.now place) (found_among c.args.number tree c.args.kind place nodes))
    (take_all c.loop-node.node (nodes_of tree) (omega (arith, length-nodes_of tree, c.node_count-node-end.ensures)))
