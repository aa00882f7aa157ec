use Rattle.ssr_syntax_tree.specs.Places.{node_of, root_of}
use Rattle.ide_ssr_matching.proofs.Shapes.{shape-accepted}
use Rattle.ide_ssr_matching.proofs.matcher.Matcher.has_shape.Goals as goal

pub returns : goal.returns
returns g c =
    shape-accepted (g.S.Semantics.meanings c.args.self.now.semantics.now) c.args.self.now.number c.args.self.now.rule.now
    (root_of c.args.self.now.rule.now.pattern) (node_of c.args.self.now.code.now c.args.c.0) _ c.in_ok-accepts.ensures
