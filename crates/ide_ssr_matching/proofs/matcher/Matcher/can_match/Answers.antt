use Rattle.ssr_syntax_tree.specs.Places.{node_of}
use Rattle.ide_ssr_matching.proofs.Pairs.{can-used, can-call}
use Rattle.ide_ssr_matching.proofs.matcher.Matcher.can_match.Goals as goal

pub returns-in_ok-stands-in-Some : goal.returns-in_ok-stands-in-Some
returns-in_ok-stands-in-Some g c =
    can-used c.args.self.now.names (g.S.Semantics.meanings c.args.self.now.semantics.now) c.args.self.now.number c.args.self.now.rule.now c.args.self.now.code.now (node_of c.args.self.now.rule.now.pattern c.args.p.0) c.args.c.0
    c.args.used c.in-Some.res _ c.requires.c_in c.in-Some.is c.in_ok-stands-in-Some.ensures

pub returns-in_ok-can-in-None : goal.returns-in_ok-can-in-None
returns-in_ok-can-in-None g c =
    can-call c.args.self.now.names (g.S.Semantics.meanings c.args.self.now.semantics.now) c.args.self.now.number c.args.self.now.rule.now c.args.self.now.rule.now.pattern c.args.p (node_of c.args.self.now.code.now c.args.c.0)
    c.args.used c.qualified_call.result _ c.requires.p_in c.in-None.is c.qualified_call.ensures c.in_ok-can-in-None.ensures
