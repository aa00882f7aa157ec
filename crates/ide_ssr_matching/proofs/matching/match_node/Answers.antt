use Rattle.ssr_syntax_tree.specs.Places.{node_of, root_of}
use Rattle.ide_ssr_matching.proofs.Shapes.{shapeless}
use Rattle.ide_ssr_matching.proofs.matching.match_node.Goals as goal

pub returns-then-not-branch-clause-bindings : goal.returns-then-not-branch-clause-bindings
returns-then-not-branch-clause-bindings g c =
    shapeless (g.S.Semantics.meanings c.args.semantics.now) c.args.node.tree c.args.rule.now (root_of c.args.rule.now.pattern)
    (node_of c.args.tree.now c.args.node.node.0) _ c.in_ok-has_shape.ensures c.if-not-branch.true
