use Rattle.std.proofs.Common.{◌∙◌}
use Rattle.ssr_syntax_tree.specs.Places.{node_of}
use Rattle.ide_ssr_matching.specs.Private.Matcher.{binder}
use Rattle.ide_ssr_matching.proofs.Roots.{root-bound, root-differs}
use Rattle.ide_ssr_matching.proofs.matcher.Matcher.bind.Goals as goal

pub returns-then-not-branch : goal.returns-then-not-branch
returns-then-not-branch g c =
    root-differs (binder g.S.Semantics.meanings c.args.self.now) c.args.self.now.rule.now.pattern (node_of c.args.self.now.code.now c.args.c.0)
    _ _ _ c.in_ok-node_matches.ensures c.if-not-branch.true

pub returns : goal.returns
returns g c =
    c.into_bound.ensures
    ∙ root-bound (binder g.S.Semantics.meanings c.args.self.now) c.args.self.now.rule.now.pattern (node_of c.args.self.now.code.now c.args.c.0)
    _ _ _ c.in_ok-node_matches.ensures c.new-record.ensures c.if-not-branch.false
