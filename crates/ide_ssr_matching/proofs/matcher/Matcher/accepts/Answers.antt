use Rattle.ssr_syntax_tree.specs.Places.{node_of}
use Rattle.ide_ssr_matching.specs.Private.Matcher.{binder}
use Rattle.ide_ssr_matching.proofs.Roots.{root-accepted}
use Rattle.ide_ssr_matching.proofs.matcher.Matcher.accepts.Goals as goal

pub returns : goal.returns
returns g c =
    root-accepted (binder g.S.Semantics.meanings c.args.self.now) c.args.self.now.rule.now.pattern (node_of c.args.self.now.code.now c.args.c.0)
    _ _ _ c.in_ok-accepts.ensures
