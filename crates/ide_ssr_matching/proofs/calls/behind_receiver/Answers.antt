use Rattle.ide_ssr_matching.specs.Private.ChildNodes.{IsNodeBelow}
use Rattle.ide_ssr_matching.proofs.ChildNodes.{nodes_behind, nodes_had}
use Rattle.ide_ssr_matching.proofs.calls.behind_receiver.Goals as goal

pub first_of-requires : goal.first_of-requires
first_of-requires c =
    let tree = c.args.tree.now in
    let n = c.args.call.0 in
    nodes_had tree n c.next.new.self
    (nodes_behind (IsNodeBelow tree n) c.in_ok-next.field-0 _ c.next.new.self c.in_ok-next.ensures.steps c.of-nodes.ensures.below)
