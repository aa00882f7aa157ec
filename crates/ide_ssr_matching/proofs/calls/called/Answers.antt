use Rattle.ssr_syntax_tree.specs.declared.number.Element.TheVariants as element
use Rattle.ide_ssr_matching.specs.Private.ChildNodes.{IsNodeBelow}
use Rattle.ide_ssr_matching.proofs.Arguments.{below_path}
use Rattle.ide_ssr_matching.proofs.ChildNodes.{node_first, nodes_behind}
use Rattle.ide_ssr_matching.proofs.calls.called.Goals as goal

pub returns-clause-below : goal.returns-clause-below
returns-clause-below c =
    let tree = c.args.tree.now in
    let n = c.args.call.0 in
    let steps = c.in_ok-callee.ensures.steps in
    let callee = node_first (IsNodeBelow tree n) c.in_ok-callee.callee _ c.next.new.self steps c.of-nodes.ensures.below in
    let behind = nodes_behind (IsNodeBelow tree n) c.in_ok-callee.callee _ c.next.new.self steps c.of-nodes.ensures.below in
    record {
      path = below_path tree n c.in_ok-callee.callee.0 c.requires callee.0 callee.1 (element.Node c.in_ok-path.path) c.in_ok-path.ensures.below;
      list = node_first (IsNodeBelow tree n) c.in_ok-list.list _ c.next-2.new.self c.in_ok-list.ensures.steps behind;
    }
