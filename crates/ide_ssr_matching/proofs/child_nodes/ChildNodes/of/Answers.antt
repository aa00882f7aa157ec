use Rattle.std.proofs.Common.{map, All, ap, arith, sym, subst, ◌∙◌}
use Rattle.ssr_syntax_tree.specs.Places.{part_of}
use Rattle.ssr_syntax_tree.proofs.Shared.{parts_of-elements_of}
use Rattle.ide_ssr_matching.specs.Calls.{nodes_among}
use Rattle.ide_ssr_matching.specs.Private.Children.{IsElementBelow}
use Rattle.ide_ssr_matching.proofs.Bare.{elements_below}
use Rattle.ide_ssr_matching.proofs.ChildNodes.{among_at, among_below, among_fewer}
use Rattle.ide_ssr_matching.proofs.child_nodes.ChildNodes.of.Goals as goal

pub returns-clause-nodes : goal.returns-clause-nodes
returns-clause-nodes c =
    let tree = c.args.tree.now in
    among_at tree c.children.result
    ∙ ap (λ children. nodes_among (map (part_of tree) children)) c.children.ensures.elements
    ∙ ap nodes_among (parts_of-elements_of tree c.args.node.0 c.requires)

pub returns-clause-below : goal.returns-clause-below
returns-clause-below c =
    let tree = c.args.tree.now in
    let n = c.args.node.0 in
    among_below tree n c.children.result (subst (All (IsElementBelow tree n)) (sym c.children.ensures.elements) (elements_below tree n c.requires))

pub returns-clause-few : goal.returns-clause-few
returns-clause-few c = omega (arith, among_fewer c.children.result, c.children.ensures.few)
