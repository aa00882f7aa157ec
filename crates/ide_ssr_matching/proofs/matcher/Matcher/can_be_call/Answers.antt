use Rattle.ide_ssr_matching.proofs.CallsTold.{first_told, none_told}
use Rattle.ide_ssr_matching.proofs.matcher.Matcher.can_be_call.Goals as goal

pub returns-in_ok-count-in-Some-first_argument : goal.returns-in_ok-count-in-Some-first_argument
returns-in_ok-count-in-Some-first_argument g c =
    first_told (g.S.Semantics.meanings c.args.self.now.semantics.now) c.args.self.now.number c.args.self.now.code.now c.args.c.0 c.args.call c.in-Some.call
    c.in-Some-first_argument.first c.in_ok-count-in-Some-first_argument.count _ c.in-Some.is c.in-Some-first_argument.ensures.has c.in-Some-first_argument.ensures.node
    c.in_ok-count-in-Some-first_argument.ensures c.is_some.ensures

pub returns-in-None : goal.returns-in-None
returns-in-None g c =
    none_told (g.S.Semantics.meanings c.args.self.now.semantics.now) c.args.self.now.number c.args.self.now.code.now c.args.c.0 c.args.call c.in-Some.call c.in-Some.is
    c.in-None.ensures.node
